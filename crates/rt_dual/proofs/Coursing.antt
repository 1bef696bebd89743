-- What is written of two cores that have ended is a text that the definitions allow.
use Rattle.rt_live.proofs.Vocabulary.{Caller, Core, Entry, Event, Image, Leads, Line, List, Machine, Option, Request}
use Rattle.rt_live.proofs.Vocabulary.{Row, [], account_of, account_text, ap, append_assoc, calls_in, irqs_of, lines_of}
use Rattle.rt_live.proofs.Vocabulary.{looks, map, own_events, part, refl, request_of, subst, sym, took_on, total_text}
use Rattle.rt_live.proofs.Vocabulary.{turn_requests, ℕ, ◌++◌, ◌∙◌, ◌≡◌}
use Rattle.rt_dual.proofs.Vocabulary.{AccountRow, Both, HasRun, HaveRun, IsCourse, IsPairText, IsWritten, CorePlace}
use Rattle.rt_dual.proofs.Vocabulary.{Share}
use Rattle.rt_dual.proofs.Vocabulary.{Side, course_events, first_events, forward, second_events, sends_of}
use Rattle.std.proofs.Common.{ap₂}
use Rattle.rt_dual.specs.{Course.turns, Output.account, Output.core_text, Output.course_text, Inside.Both.front}
use Rattle.rt_live.proofs.Ended.{fresh_text}
use Rattle.rt_dual.proofs.Beforehand.{own_calls, rows_irqs, woven}

-- one of the cores, which has ended on its side
module _ {place : CorePlace} {made : List ℕ} {share : Share} {head : List ℕ} {row : Row} {other : Image}
    {script : List Line} {m n : Machine} {side : Side} (run : HasRun place made share head row other script m n side)
    (history : List Entry) where
  abbrev events : List Event
  events = own_events share script

  abbrev found : List (List ℕ)
  found = (woven run).found

  abbrev asks : (ℕ → Option ℕ) → ℕ → ℕ → Share → Core → List Request
  asks route here there own core = turn_requests route here there m.image core (turns (own_events own script)) found

  pub is_course : part history place.line ≡ side.line.value.calls
      → IsCourse place m.image other.names events found history
  is_course own =
      let line : Caller = run.old.line.value in
      let by : Share = run.old.role.share in
      record {
        bits = run.before.bits;
        many = (woven run).reach.0 ∙ ap (λ s. looks (turns (own_events s script))) run.before.shares;
        whole = (woven run).whole;
        declared = (woven run).declared;
        called =
            ap (map request_of) (own ∙ own_calls run)
            ∙ (woven run).asked refl
            ∙ ap (λ (r : ℕ → Option ℕ). asks r line.here line.there by m.core) (λ i post. run.before.routes post i)
            ∙ ap (λ k. asks (forward m.image other.names) k line.there by m.core) (ap (λ
            (l : Caller). l.here) run.before.line)
            ∙ ap (λ k. asks (forward m.image other.names) place.here k by m.core) (ap (λ
            (l : Caller). l.there) run.before.line)
            ∙ ap (λ s. asks (forward m.image other.names) place.here place.there s m.core) run.before.shares
            ∙ ap (asks (forward m.image other.names) place.here place.there share) run.fresh.core;
      }

  pub leads : Leads (course_events events found) m n
  leads =
      subst (λ s. Leads (course_events (own_events s script) found) m n) run.before.shares (sends_of (woven run)).leads

  -- and its text
  pub core_written : (left : List ℕ) (rows : List AccountRow)
      → rows ≡ account_of place.here (irqs_of side.rows.items) (calls_in history) left
      → side.text.bytes.items ++ account_text m.image.names rows
      ≡ core_text head m.image events found (account place.here m.image history left)
  core_written left rows are =
      let told : List ℕ = course_text m.image events found in
      ap (λ t. t ++ account_text m.image.names rows)
      (took_on run.old.text.bytes.items run.ended.ends.ended.shown side.text.bytes.items
      (lines_of m (course_events (own_events run.old.role.share script) found)) (total_text n.steps)
      (sends_of (woven run)).took run.ended.ends.ended.total
      ∙ ap (λ x. x ++ (lines_of m (course_events (own_events run.old.role.share script) found) ++ total_text n.steps))
      run.before.text
      ∙ ap (λ s. front head m.image ++ (lines_of m (course_events (own_events s script) found) ++ total_text n.steps))
      run.before.shares
      ∙ ap (λ t. front head m.image ++ t) (fresh_text m n (course_events events found) run.fresh leads))
      ∙ append_assoc (front head m.image) told (account_text m.image.names rows)
      ∙ ap (λ rs. front head m.image ++ (told ++ account_text m.image.names rs))
      (are ∙ ap (λ irqs. account_of place.here irqs (calls_in history) left) (rows_irqs run))
      ∙ sym (append_assoc (front head m.image) told (account place.here m.image history left))

-- both of them
abbrev pub pair_text : {script : List Line} {a a' b b' : Machine} {both : Both} {bytes : List ℕ}
    → HaveRun script a a' b b' both → IsWritten a.image b.image both bytes → IsPairText a.image b.image script bytes
pair_text run written =
    let are = written.are in
    record {
      one = (woven run.one).found;
      two = (woven run.two).found;
      history = are.history;
      left = are.left;
      legal = are.legal;
      is_one = is_course run.one are.history are.first;
      is_two = is_course run.two are.history are.second;
      others = are.others;
      written =
          written.written
          ∙ ap₂ (λ (x y : List ℕ). x ++ y) (core_written run.one are.history are.left written.one are.one_rows)
          (core_written run.two are.history are.left written.two are.two_rows);
    }

-- what is written when both have ended is such a text, and each core has done the events of its trace there
pub finished : {script lines : List Line} {a a' b b' : Machine} {both : Both} {first second : Image} {bytes : List ℕ}
    → HaveRun lines a a' b b' both → lines ≡ script → first ≡ a'.image → second ≡ b'.image
    → IsWritten first second both bytes
    → (is : IsPairText a.image b.image script bytes)
    × Leads (course_events (first_events script) is.one) a a'
    × Leads (course_events (second_events script) is.two) b b'
finished {script = script} {a = a} {a' = a'} {b = b} {b' = b'} {both = both} {second = second} {bytes = bytes} run same
    one two written =
    let now : HaveRun script a a' b b' both = subst (λ s. HaveRun s a a' b b' both) same run in
    let are : IsWritten a.image b.image both bytes =
    subst (λ i. IsWritten a.image i both bytes) (two ∙ (leads now.two []).image)
    (subst (λ i. IsWritten i second both bytes) (one ∙ (leads now.one []).image) written) in
    (pair_text now are, leads now.one [], leads now.two [])
