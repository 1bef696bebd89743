-- The readers of options.
use Rattle.std.specs.Prelude.{ℕ, Bool, true, false, not, ◌&&◌, codes, List, [], length, Some, is_none, Ok, Err}
use Rattle.std.specs.Prelude.{if◌then◌else◌}
use Rattle.rt_ids.specs.declared.limit.Limit.TheVariants as limit
use Rattle.rt_ids.specs.declared.limits.TheConstants.{CAPACITY}
use Rattle.rt_lex.specs.Token.{Token, is_this_word, is_this_sign}
use Rattle.rt_ast.specs.declared.app.ListedTree.{ListedTree}
use Rattle.rt_grammar.specs.Limits.{within}
use Rattle.rt_grammar.specs.Options.{Options, no_options, Owner, is_task, is_init}
use Rattle.rt_parse.specs.Inside.Reading.{Reader, ◌>>=◌, begins_with, fault_found_at, word_at, sign_at, name_at}
use Rattle.rt_parse.specs.Inside.Reading.{number_at}
use Rattle.rt_parse.specs.Inside.Reading.{limited_number_at}
use Rattle.rt_parse.specs.Inside.ReadingList.{items_at, adds_at, names_at}

-- the interrupt that a task is bound to
unfoldable pub binds_at : Options → Reader Options
binds_at o tokens = do
  a ← word_at (codes "binds") tokens
  b ← sign_at (codes "=") a.1
  x ← name_at b.1
  Ok (record o { binds = Some x.0 }, x.1)

-- the priority of a task
unfoldable pub priority_at : Options → Reader Options
priority_at o tokens = do
  a ← word_at (codes "priority") tokens
  b ← sign_at (codes "=") a.1
  n ← number_at b.1
  Ok (record o { priority = Some n.0 }, n.1)

-- the capacity of a task
unfoldable pub capacity_at : Options → Reader Options
capacity_at o tokens = do
  a ← word_at (codes "capacity") tokens
  b ← sign_at (codes "=") a.1
  n ← limited_number_at (within 1 CAPACITY limit.Capacity) b.1
  Ok (record o { capacity = Some n.0.value }, n.1)

-- a shared resource that is listed by reference, from its `&` on
unfoldable pub ref_resource_at : Reader ListedTree
ref_resource_at tokens = do
  at ← sign_at (codes "&") tokens
  x ← name_at at.1
  Ok (record { name = x.0; by_ref = true; at = at.0 }, x.1)

-- a shared resource that is listed by its name
unfoldable pub named_resource_at : Reader ListedTree
named_resource_at tokens = do
  x ← name_at tokens
  Ok (record { name = x.0; by_ref = false; at = x.0.at }, x.1)

-- a shared resource that a body lists
unfoldable pub listed_resource_at : Reader ListedTree
listed_resource_at tokens = if begins_with (is_this_sign (codes "&")) tokens then ref_resource_at tokens
    else named_resource_at tokens

-- the shared resources that a body lists
unfoldable pub shared_list_at : Options → Reader Options
shared_list_at o tokens = do
  a ← word_at (codes "shared") tokens
  b ← sign_at (codes "=") a.1
  c ← sign_at (codes "[") b.1
  xs ← items_at (codes "]") (adds_at (λ before. listed_resource_at)) (length c.1) [] c.1
  Ok (record o { shared = Some xs.0 }, xs.1)

-- the local resources that a body lists
unfoldable pub local_list_at : Options → Reader Options
local_list_at o tokens = do
  a ← word_at (codes "local") tokens
  b ← sign_at (codes "=") a.1
  xs ← names_at b.1
  Ok (record o { local = Some xs.0 }, xs.1)

-- whether an option may come here, and comes next
abbrev pub option_comes : Bool → List ℕ → Token → Bool
option_comes allowed text t = allowed && is_this_word text t

-- one more option, after these
unfoldable pub option_at : Owner → Options → Reader Options
option_at owner o tokens =
    if begins_with (option_comes (is_task owner && is_none o.binds) (codes "binds")) tokens then binds_at o tokens
    else if begins_with (option_comes (is_task owner && is_none o.priority) (codes "priority")) tokens
    then priority_at o tokens
    else if begins_with (option_comes (is_task owner && is_none o.capacity) (codes "capacity")) tokens
    then capacity_at o tokens
    else if begins_with (option_comes (not (is_init owner) && is_none o.shared) (codes "shared")) tokens
    then shared_list_at o tokens
    else if begins_with (option_comes (is_none o.local) (codes "local")) tokens then local_list_at o tokens
    else Err (fault_found_at tokens)

-- the options from their parenthesis on
unfoldable pub some_options_at : Owner → Reader Options
some_options_at owner tokens = do
  a ← sign_at (codes "(") tokens
  items_at (codes ")") (option_at owner) (length a.1) no_options a.1

-- the options, if a parenthesis comes next
unfoldable pub options_at : Owner → Reader Options
options_at owner tokens =
    if begins_with (is_this_sign (codes "(")) tokens then some_options_at owner tokens else Ok (no_options, tokens)
