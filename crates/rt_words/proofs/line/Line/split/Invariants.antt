use Rattle.rt_words.proofs.line.Line.split.Given as goal

-- the number of the new line
abbrev pub ghosts-split_off : goal.ghosts-split_off
ghosts-split_off a = record { number = a.number }
