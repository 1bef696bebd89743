-- With each line that is taken, what a reader has read goes on to stand.
use Rattle.std.proofs.Common.{◌≡◌, inl, inr, ◌<◌, ◌+◌, ℕ, true, not, ◌&&◌, nat_lt, List, [], ◌∷◌, ◌++◌}
use Rattle.std.proofs.Common.{length, map, filter, flat_map, Option, refl, ap, sym, ◌∙◌, subst, arith}
use Rattle.std.proofs.Common.{append_assoc, append-nil, length-append, slice_index_or}
use Rattle.std.specs.List.{AllByRecursion}
use Rattle.std.proofs.lemmas.Bool.{ltb-true, eqb-true}
use Rattle.std.proofs.lemmas.List.{map_push, get_or_push, get_or_append_left}
use Rattle.std.proofs.lemmas.List.Elements.{filter-append}
use Rattle.rt_lines.specs.Numbers.{Is32Bits}
use Rattle.rt_lemmas.proofs.Bools.{and_parts}
use Rattle.rt_lemmas.proofs.Membership.{all_weaker}
use Rattle.rt_lemmas.proofs.Lists.{map_alike}
use Rattle.rt_ids.specs.Lists.{is_empty}
use Rattle.rt_ids.specs.Names.{Names, AreNames, irq_of, task_index, with_irq, with_task}
use Rattle.rt_ids.specs.Naming.{task_name, IsTask}
use Rattle.rt_ids.specs.declared.cell.CellRow.{CellRow}
use Rattle.rt_ids.specs.declared.limits.TheConstants.{IRQS, TASKS}
use Rattle.rt_ids.proofs.Lists.{all_push}
use Rattle.rt_ids.proofs.Declared.{irq_added, task_added, resource_added}
use Rattle.rt_code.specs.Image.{Image}
use Rattle.rt_code.specs.Listable.{IsWord, IsPlain, HasInstr, HasNote}
use Rattle.rt_code.proofs.Writable.{names_writable, plain}
use Rattle.rt_code.specs.declared.image.IrqRow.{IrqRow}
use Rattle.rt_code.specs.declared.image.BodyRow.{BodyRow}
use Rattle.rt_code.specs.declared.instr.Instr.{Instr}
use Rattle.rt_code.specs.declared.instr.Note.{Note}
use Rattle.rt_listing.specs.Listing.{first_line, lines_with_numbers, cell_line, irq_line, body_line, code_line}
use Rattle.rt_load.specs.Loadable.{IsLoadable, IsIrqWithin, IsBodyWithin, IsLineWithin, has_dot}
use Rattle.rt_load.specs.Inside.Taking.{with_name_of, may_name_cell, is_in_cells, has_cells, may_add_cell, may_add_irq}
use Rattle.rt_load.specs.Inside.Taking.{may_add_body, may_add_line, and_cell, and_irq, and_body, and_line, is_new_irq}
use Rattle.rt_load.specs.Inside.Taking.{is_new_task}
use Rattle.rt_load.specs.declared.front.Front.{Front}
use Rattle.rt_load.proofs.Declared.{IsNew, new_from}
use Rattle.rt_load.proofs.Fronts.{front_text, IsInCells, Stands, numbered_next, flat_push, empty_from, CellNamed}
use Rattle.rt_load.proofs.Fronts.{Dotted, Resource, cell_named}
use Rattle.rt_load.proofs.Written.{IsRight}

-- a front that stands, and its text with a line more
pub record Goes (front next : Front) (line : List ℕ) : Type 0 where
  pub stands : Stands next
  pub text : front_text next ≡ front_text front ++ line

names_are : (n : Names) (irqs : List (List ℕ × ℕ)) (tasks shared : List (List ℕ)) → irqs ≡ n.irqs → tasks ≡ n.tasks
    → shared ≡ n.shared
    → record { irqs = irqs; tasks = tasks; shared = shared } ≡ n
names_are n irqs tasks shared a b c = λ i. record { irqs = a i; tasks = b i; shared = c i }

-- the names with that of a cell
record AreWith (names more : Names) (name : List ℕ) : Type 0 where
  are : AreNames more
  word : IsWord name
  irqs : more.irqs ≡ names.irqs
  tasks : more.tasks ≡ names.tasks
  shared : more.shared ≡ names.shared ++ filter (λ n. not (has_dot n)) (name ∷ [])

with_cell_name : (names : Names) (name : List ℕ) → AreNames names → CellNamed names name
    → AreWith names (with_name_of names name) name
with_cell_name names name are (Dotted dot word) = rw dot (record {
  are = are;
  word = word;
  irqs = refl;
  tasks = refl;
  shared = rw dot (sym (append-nil names.shared));
})
with_cell_name names name are (Resource dot new) = rw dot (record {
  are = resource_added names name are new.named new.unknown new.below;
  word = let plain = plain name new.named in plain.word;
  irqs = refl;
  tasks = refl;
  shared = rw dot refl;
})

told_irqs : (img : Image) → IsLoadable img → map (λ row. (row.name, row.number)) img.irqs ≡ img.names.irqs
told_irqs img l = ap (λ (n : Names). n.irqs) l.names

told_tasks : (img : Image) → IsLoadable img → map (λ row. task_name img.names row.task) img.bodies ≡ img.names.tasks
told_tasks img l = ap (λ (n : Names). n.tasks) l.names

told_shared : (img : Image) → IsLoadable img → filter (λ name. not (has_dot name)) (map (λ cell. cell.name) img.cells)
    ≡ img.names.shared
told_shared img l = ap (λ (n : Names). n.shared) l.names

-- a cell more
with_cell : (img : Image) (cell : CellRow) (more : Names) → IsLoadable img → IsInCells img
    → AreWith img.names more cell.name
    → Is32Bits cell.first → Is32Bits (length img.cells + 1) → IsLoadable
    (record img { cells = img.cells ++ cell ∷ []; names = more })
with_cell img cell more l in_cells with first few = record {
  fits = record {
    least_bits = l.fits.least_bits;
    most_bits = l.fits.most_bits;
    stack_bytes = l.fits.stack_bytes;
    thread_words = l.fits.thread_words;
    names = with.are;
    few_cells = omega (arith, few, length-append img.cells (cell ∷ []));
    cells = all_push (λ (cell : CellRow). Is32Bits cell.first) img.cells cell l.fits.cells first;
    irqs = l.fits.irqs;
    bodies = l.fits.bodies;
    few_lines = l.fits.few_lines;
    code = l.fits.code;
  };
  listable = record {
    names = names_writable more with.are;
    cells = all_push (λ (cell : CellRow). IsWord cell.name) img.cells cell l.listable.cells with.word;
    irqs = l.listable.irqs;
    bodies = subst (λ (rows : List BodyRow). AllByRecursion (λ row. IsTask more row.task) rows) (sym in_cells.bodies)
        tt;
    instrs = subst (λ (lines : List (Instr × Option Note)). AllByRecursion (λ line. HasInstr more line.0) lines)
        (sym in_cells.code) tt;
    notes = subst (λ (lines : List (Instr × Option Note)). AllByRecursion (λ line. HasNote more line.1) lines)
        (sym in_cells.code) tt;
  };
  names = names_are more _ _ _
      (told_irqs img l ∙ sym with.irqs)
      (map_alike (λ (row : BodyRow). task_name more row.task) (λ (row : BodyRow). task_name img.names row.task)
      (λ row. ap (λ (ts : List (List ℕ)). slice_index_or ts row.task []) with.tasks) img.bodies
      ∙ told_tasks img l ∙ sym with.tasks)
      (ap (filter (λ name. not (has_dot name))) (map_push (λ (cell : CellRow). cell.name) img.cells cell)
      ∙ filter-append (λ name. not (has_dot name)) (map (λ (cell : CellRow). cell.name) img.cells) (cell.name ∷ [])
      ∙ ap (λ (names : List (List ℕ)). names ++ filter (λ name. not (has_dot name)) (cell.name ∷ []))
      (told_shared img l)
      ∙ sym with.shared);
}

-- parts behind which there is nothing
nothing_behind : (a b c d e : List ℕ) → c ≡ [] → d ≡ [] → e ≡ [] → (((a ++ b) ++ c) ++ d) ++ e ≡ a ++ b
nothing_behind a b c d e x y z = rw (x, y, z) (append-nil (((a ++ b) ++ []) ++ []) ∙ append-nil ((a ++ b) ++ [])
    ∙ append-nil (a ++ b))

cells_text : (front : Front) → IsInCells front.image
    → front_text front ≡ first_line front.image front.code front.cells
    ++ lines_with_numbers cell_line 0 front.image.cells
cells_text front h =
    nothing_behind (first_line front.image front.code front.cells) (lines_with_numbers cell_line 0 front.image.cells) _
    _ _
    (ap (flat_map irq_line) h.irqs) (ap (flat_map (body_line front.image.names)) h.bodies)
    (ap (lines_with_numbers (code_line front.image.names) 0) h.code)

pub cell_goes : (front : Front) (cell : CellRow) → Stands front → may_add_cell front cell.name ≡ true
    → Is32Bits cell.first
    → Goes front (and_cell front cell) (cell_line (length front.image.cells) cell)
cell_goes front cell stands may first =
    let both = and_parts (is_in_cells front) (may_name_cell front.image.names cell.name) may in
    let codes_none = and_parts ((nat_lt (length front.image.cells) front.cells && is_empty front.image.irqs)
    && is_empty front.image.bodies) (is_empty front.image.code) both.0 in
    let bodies_none = and_parts (nat_lt (length front.image.cells) front.cells && is_empty front.image.irqs)
    (is_empty front.image.bodies) codes_none.0 in
    let irqs_none = and_parts (nat_lt (length front.image.cells) front.cells) (is_empty front.image.irqs)
    bodies_none.0 in
    let below : length front.image.cells < front.cells = ltb-true (length front.image.cells) front.cells irqs_none.0 in
    let in_cells : IsInCells front.image = record {
      irqs = empty_from front.image.irqs irqs_none.1;
      bodies = empty_from front.image.bodies bodies_none.1;
      code = empty_from front.image.code codes_none.1;
    } in
    let in_next : IsInCells (and_cell front cell).image =
    record { irqs = in_cells.irqs; bodies = in_cells.bodies; code = in_cells.code } in
    let with = with_cell_name front.image.names cell.name stands.loadable.fits.names
    (cell_named front.image.names cell.name both.1) in
    let longer : length (front.image.cells ++ cell ∷ []) ≡ length front.image.cells + 1 =
    length-append front.image.cells (cell ∷ []) in
    let few = stands.few_cells in
    record {
      stands = record {
        loadable = with_cell front.image cell _ stands.loadable in_cells with first (omega (arith, few, below));
        few_lines = stands.few_lines;
        few_cells = stands.few_cells;
        cells = omega (arith, longer, below);
        code = stands.code;
        full = inr in_next;
      };
      text =
          cells_text (and_cell front cell) in_next
          ∙ ap (λ t. first_line front.image front.code front.cells ++ t)
          (numbered_next cell_line front.image.cells cell)
          ∙ sym (append_assoc (first_line front.image front.code front.cells)
          (lines_with_numbers cell_line 0 front.image.cells) (cell_line (length front.image.cells) cell))
          ∙ ap (λ t. t ++ cell_line (length front.image.cells) cell) (sym (cells_text front in_cells));
    }

-- an interrupt more
with_row : (img : Image) (row : IrqRow) → IsLoadable img → img.bodies ≡ [] → img.code ≡ [] → IsIrqWithin row
    → IsNew row.name (irq_of img.names row.name) (length img.names.irqs) IRQS
    → IsLoadable (record img { irqs = img.irqs ++ row ∷ []; names = with_irq img.names row.name row.number })
with_row img row l no_bodies no_code within new =
    let are : AreNames (with_irq img.names row.name row.number) = irq_added img.names row.name row.number l.fits.names
    new.named new.unknown new.below in
    record {
      fits = record {
        least_bits = l.fits.least_bits;
        most_bits = l.fits.most_bits;
        stack_bytes = l.fits.stack_bytes;
        thread_words = l.fits.thread_words;
        names = are;
        few_cells = l.fits.few_cells;
        cells = l.fits.cells;
        irqs = all_push IsIrqWithin img.irqs row l.fits.irqs within;
        bodies = l.fits.bodies;
        few_lines = l.fits.few_lines;
        code = l.fits.code;
      };
      listable = record {
        names = names_writable _ are;
        cells = l.listable.cells;
        irqs = all_push (λ (row : IrqRow). IsPlain row.name) img.irqs row l.listable.irqs
            (plain row.name new.named);
        bodies = l.listable.bodies;
        instrs = subst (λ (lines : List (Instr × Option Note)). AllByRecursion
            (λ line. HasInstr (with_irq img.names row.name row.number) line.0) lines) (sym no_code) tt;
        notes = subst (λ (lines : List (Instr × Option Note)). AllByRecursion
            (λ line. HasNote (with_irq img.names row.name row.number) line.1) lines) (sym no_code) tt;
      };
      names = names_are (with_irq img.names row.name row.number) _ _ _
          (map_push (λ (row : IrqRow). (row.name, row.number)) img.irqs row
          ∙ ap (λ (irqs : List (List ℕ × ℕ)). irqs ++ (row.name, row.number) ∷ []) (told_irqs img l))
          (told_tasks img l)
          (told_shared img l);
    }

nothing_last : (a b c d e : List ℕ) → d ≡ [] → e ≡ [] → (((a ++ b) ++ c) ++ d) ++ e ≡ (a ++ b) ++ c
nothing_last a b c d e y z = rw (y, z) (append-nil (((a ++ b) ++ c) ++ []) ∙ append-nil ((a ++ b) ++ c))

irqs_text : (front : Front) → front.image.bodies ≡ [] → front.image.code ≡ []
    → front_text front ≡ (first_line front.image front.code front.cells
    ++ lines_with_numbers cell_line 0 front.image.cells) ++ flat_map irq_line front.image.irqs
irqs_text front no_bodies no_code =
    nothing_last (first_line front.image front.code front.cells) (lines_with_numbers cell_line 0 front.image.cells)
    (flat_map irq_line front.image.irqs) _ _
    (ap (flat_map (body_line front.image.names)) no_bodies)
    (ap (lines_with_numbers (code_line front.image.names) 0) no_code)

pub irq_goes : (front : Front) (row : IrqRow) → Stands front → may_add_irq front row.name ≡ true → IsIrqWithin row
    → Goes front (and_irq front row) (irq_line row)
irq_goes front row stands may within =
    let both = and_parts ((has_cells front && is_empty front.image.bodies) && is_empty front.image.code)
    (is_new_irq front.image.names row.name) may in
    let codes_none = and_parts (has_cells front && is_empty front.image.bodies) (is_empty front.image.code) both.0 in
    let bodies_none = and_parts (has_cells front) (is_empty front.image.bodies) codes_none.0 in
    let no_bodies = empty_from front.image.bodies bodies_none.1 in
    let no_code = empty_from front.image.code codes_none.1 in
    let new = new_from row.name (irq_of front.image.names row.name) (length front.image.names.irqs) IRQS both.1 in
    let front_cells = first_line front.image front.code front.cells ++ lines_with_numbers cell_line 0
    front.image.cells in
    record {
      stands = record {
        loadable = with_row front.image row stands.loadable no_bodies no_code within new;
        few_lines = stands.few_lines;
        few_cells = stands.few_cells;
        cells = stands.cells;
        code = stands.code;
        full = inl (eqb-true (length front.image.cells) front.cells bodies_none.0);
      };
      text =
          irqs_text (and_irq front row) no_bodies no_code
          ∙ ap (λ t. front_cells ++ t) (flat_push irq_line front.image.irqs row)
          ∙ sym (append_assoc front_cells (flat_map irq_line front.image.irqs) (irq_line row))
          ∙ ap (λ t. t ++ irq_line row) (sym (irqs_text front no_bodies no_code));
    }

-- older tasks keep their names
older_name : (names : Names) (name : List ℕ) (task : ℕ) → IsTask names task → task_name (with_task names name) task
    ≡ task_name names task
older_name names name task has = get_or_append_left names.tasks (name ∷ []) [] task has

older_names : (names : Names) (name : List ℕ) (rows : List BodyRow) → AllByRecursion (λ row. IsTask names row.task)
    rows
    → map (λ row. task_name (with_task names name) row.task) rows ≡ map (λ row. task_name names row.task) rows
older_names names name [] all = refl
older_names names name (row ∷ rows) all = rw (older_name names name row.task all.0, older_names names name rows all.1)
    refl

older_lines : (names : Names) (name : List ℕ) (rows : List BodyRow) → AllByRecursion (λ row. IsTask names row.task)
    rows
    → flat_map (body_line (with_task names name)) rows ≡ flat_map (body_line names) rows
older_lines names name [] all = refl
older_lines names name (row ∷ rows) all = rw (older_name names name row.task all.0, older_lines names name rows all.1)
    refl

-- a body more
with_body : (img : Image) (name : List ℕ) (row : BodyRow) → IsLoadable img → img.code ≡ [] → IsBodyWithin row → row.task
    ≡ length img.names.tasks
    → IsNew name (task_index img.names name) (length img.names.tasks) TASKS
    → IsLoadable (record img { bodies = img.bodies ++ row ∷ []; names = with_task img.names name })
with_body img name row l no_code within task new =
    let are : AreNames (with_task img.names name) = task_added img.names name l.fits.names new.named new.unknown
    new.below in
    let longer : length (img.names.tasks ++ name ∷ []) ≡ length img.names.tasks + 1 =
    length-append img.names.tasks (name ∷ []) in
    record {
      fits = record {
        least_bits = l.fits.least_bits;
        most_bits = l.fits.most_bits;
        stack_bytes = l.fits.stack_bytes;
        thread_words = l.fits.thread_words;
        names = are;
        few_cells = l.fits.few_cells;
        cells = l.fits.cells;
        irqs = l.fits.irqs;
        bodies = all_push IsBodyWithin img.bodies row l.fits.bodies within;
        few_lines = l.fits.few_lines;
        code = l.fits.code;
      };
      listable = record {
        names = names_writable _ are;
        cells = l.listable.cells;
        irqs = l.listable.irqs;
        bodies = all_push (λ (row : BodyRow). IsTask (with_task img.names name) row.task) img.bodies row
            (all_weaker (λ (row : BodyRow). IsTask img.names row.task)
            (λ (row : BodyRow). IsTask (with_task img.names name) row.task)
            (λ row has. omega (arith, has, longer)) img.bodies l.listable.bodies)
            (omega (arith, task, longer));
        instrs = subst (λ (lines : List (Instr × Option Note)). AllByRecursion
            (λ line. HasInstr (with_task img.names name) line.0) lines) (sym no_code) tt;
        notes = subst (λ (lines : List (Instr × Option Note)). AllByRecursion
            (λ line. HasNote (with_task img.names name) line.1) lines) (sym no_code) tt;
      };
      names = names_are (with_task img.names name) _ _ _
          (told_irqs img l)
          (map_push (λ (row : BodyRow). task_name (with_task img.names name) row.task) img.bodies row
          ∙ ap (λ (names : List (List ℕ)). names ++ task_name (with_task img.names name) row.task ∷ [])
          (older_names img.names name img.bodies l.listable.bodies ∙ told_tasks img l)
          ∙ ap (λ (n : List ℕ). img.names.tasks ++ n ∷ []) (get_or_push img.names.tasks name [] row.task (sym task)))
          (told_shared img l);
    }

pub body_goes : (front : Front) (name : List ℕ) (row : BodyRow) → Stands front → may_add_body front name ≡ true
    → IsBodyWithin row
    → row.task ≡ length front.image.names.tasks
    → Goes front (and_body front name row) (body_line (with_task front.image.names name) row)
body_goes front name row stands may within task =
    let both = and_parts (has_cells front && is_empty front.image.code) (is_new_task front.image.names name) may in
    let codes_none = and_parts (has_cells front) (is_empty front.image.code) both.0 in
    let no_code = empty_from front.image.code codes_none.1 in
    let new = new_from name (task_index front.image.names name) (length front.image.names.tasks) TASKS both.1 in
    let names = with_task front.image.names name in
    let front_irqs = (first_line front.image front.code front.cells ++ lines_with_numbers cell_line 0 front.image.cells)
    ++ flat_map irq_line front.image.irqs in
    let text_of_bodies : (n : Names) (rows : List BodyRow) (lines : List (Instr × Option Note)) → lines ≡ []
    → (front_irqs ++ flat_map (body_line n) rows) ++ lines_with_numbers (code_line n) 0 lines ≡ front_irqs
    ++ flat_map (body_line n) rows =
    λ n rows lines none. ap (λ (ls : List (Instr × Option Note)). (front_irqs ++ flat_map (body_line n) rows)
    ++ lines_with_numbers (code_line n) 0 ls) none
    ∙ append-nil (front_irqs ++ flat_map (body_line n) rows) in
    record {
      stands = record {
        loadable = with_body front.image name row stands.loadable no_code within task new;
        few_lines = stands.few_lines;
        few_cells = stands.few_cells;
        cells = stands.cells;
        code = stands.code;
        full = inl (eqb-true (length front.image.cells) front.cells codes_none.0);
      };
      text =
          text_of_bodies names (front.image.bodies ++ row ∷ []) front.image.code no_code
          ∙ ap (λ t. front_irqs ++ t) (flat_push (body_line names) front.image.bodies row
          ∙ ap (λ t. t ++ body_line names row) (older_lines front.image.names name front.image.bodies
          stands.loadable.listable.bodies))
          ∙ sym (append_assoc front_irqs (flat_map (body_line front.image.names) front.image.bodies)
          (body_line names row))
          ∙ ap (λ t. t ++ body_line names row)
          (sym (text_of_bodies front.image.names front.image.bodies front.image.code no_code));
    }

pub line_goes : (front : Front) (line : Instr × Option Note) → Stands front → may_add_line front ≡ true
    → IsRight front.image.names line
    → Goes front (and_line front line) (code_line front.image.names (length front.image.code) line)
line_goes front line stands may right =
    let both = and_parts (has_cells front) (nat_lt (length front.image.code) front.code) may in
    let below : length front.image.code < front.code = ltb-true (length front.image.code) front.code both.1 in
    let longer : length (front.image.code ++ line ∷ []) ≡ length front.image.code + 1 =
    length-append front.image.code (line ∷ []) in
    let few = stands.few_lines in
    let l = stands.loadable in
    let names = front.image.names in
    let front_bodies = ((first_line front.image front.code front.cells
    ++ lines_with_numbers cell_line 0 front.image.cells)
    ++ flat_map irq_line front.image.irqs) ++ flat_map (body_line names) front.image.bodies in
    record {
      stands = record {
        loadable = record {
          fits = record {
            least_bits = l.fits.least_bits;
            most_bits = l.fits.most_bits;
            stack_bytes = l.fits.stack_bytes;
            thread_words = l.fits.thread_words;
            names = l.fits.names;
            few_cells = l.fits.few_cells;
            cells = l.fits.cells;
            irqs = l.fits.irqs;
            bodies = l.fits.bodies;
            few_lines = omega (arith, longer, below, few);
            code = all_push IsLineWithin front.image.code line l.fits.code right.within;
          };
          listable = record {
            names = l.listable.names;
            cells = l.listable.cells;
            irqs = l.listable.irqs;
            bodies = l.listable.bodies;
            instrs = all_push (λ (line : Instr × Option Note). HasInstr names line.0) front.image.code line
                l.listable.instrs right.instr;
            notes = all_push (λ (line : Instr × Option Note). HasNote names line.1) front.image.code line
                l.listable.notes right.note;
          };
          names = l.names;
        };
        few_lines = stands.few_lines;
        few_cells = stands.few_cells;
        cells = stands.cells;
        code = omega (arith, longer, below);
        full = inl (eqb-true (length front.image.cells) front.cells both.0);
      };
      text =
          ap (λ t. front_bodies ++ t) (numbered_next (code_line names) front.image.code line)
          ∙ sym (append_assoc front_bodies (lines_with_numbers (code_line names) 0 front.image.code)
          (code_line names (length front.image.code) line));
    }
