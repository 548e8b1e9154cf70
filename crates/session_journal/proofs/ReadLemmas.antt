-- What is read of lines.
use Rattle.std.proofs.Common.{◌≡◌, ℕ, ◌+◌, ◌<◌, ◌≤◌, List, [], ◌∷◌, ◌++◌, length, take, drop, Option, Some, None, refl, sym, ap, ◌∙◌, append_assoc, length-append, arith}
use Rattle.std.proofs.lemmas.List.{append-nil, take-append-le, take_all, drop-append-le, drop_all, drop-drop, take-append-drop, length-take-le}
use Rattle.std.specs.List.{AllByRecursion}
use Rattle.stream_edits.specs.declared.edits.Edit.{Edit}
use Rattle.edit_journal.specs.declared.line.Line.{Line}
use Rattle.edit_journal.specs.declared.line.RowStep.{RowStep}
use Rattle.edit_journal.specs.Lines.{lines_of}
use Rattle.session_journal.specs.declared.steps.step.RecordedStep.{RecordedStep}
use Rattle.session_journal.specs.RecordRows.{IsReadFrom, IsStep, given_after, given_by_step, row_of, rows_of_edits, rows_of_step}
use Rattle.session_journal.specs.Records.{AreOf, BeginOther, given_by_steps, rows_in, lines_of_steps}
use Rattle.session_journal.proofs.LineLemmas.{begin_other, given_then, kept-lines, length-kept, length-lines, some_kept, steps_then}

-- these edits are read, and what is left is that of the others
pub record Continues (done : List Edit) (after : ℕ) (left : List RowStep) (all : List Edit) : Type 0 where
  pub rest : List Edit
  pub all_is : all ≡ done ++ rest
  pub left_is : left ≡ rows_of_edits after rest

pub continues_begin : (given : ℕ) (kept : List RowStep) (all : List Edit) → kept ≡ rows_of_edits given all → Continues [] given kept all
continues_begin given kept all is = record { rest = all; all_is = refl; left_is = is }

next_edit : (done : List Edit) (after more : ℕ) (k : RowStep) (left : List RowStep) (all : List Edit) (edit : Edit) (rest : List Edit) → ((e : Edit) → k ≡ row_of after e → Some edit ≡ Some e) → ((e : Edit) → k ≡ row_of after e → more ≡ given_after after e)
    → all ≡ done ++ rest → k ∷ left ≡ rows_of_edits after rest → Continues (done ++ edit ∷ []) more left all
next_edit done after more k left all edit [] only given all_is is = absurd (cc)
next_edit done after more k left all edit (e ∷ rest) only given all_is is =
    let first : k ≡ row_of after e = cc in
    let others : left ≡ rows_of_edits (given_after after e) rest = cc in
    let same : edit ≡ e = let both = only e first in cc in
    record {
      rest = rest;
      all_is = all_is ∙ ap (λ (x : Edit). done ++ x ∷ rest) (sym same) ∙ sym (append_assoc done (edit ∷ []) rest);
      left_is = others ∙ ap (λ (n : ℕ). rows_of_edits n rest) (sym (given e first));
    }

-- one edit more is read
pub continues_more : (done : List Edit) (after more : ℕ) (k : RowStep) (left all_left : List RowStep) (all : List Edit) (edit : Edit) → all_left ≡ k ∷ left → ((e : Edit) → k ≡ row_of after e → Some edit ≡ Some e)
    → ((e : Edit) → k ≡ row_of after e → more ≡ given_after after e) → Continues done after all_left all → Continues (done ++ edit ∷ []) more left all
continues_more done after more k left all_left all edit is_left only given c = next_edit done after more k left all edit c.rest only given c.all_is (sym is_left ∙ c.left_is)

none_edit : (after : ℕ) (k : RowStep) (left : List RowStep) (rest : List Edit) → ((e : Edit) → k ≡ row_of after e → ⊥) → k ∷ left ≡ rows_of_edits after rest → ⊥
none_edit after k left [] none is = absurd (cc)
none_edit after k left (e ∷ rest) none is = none e (cc)

-- what isn't kept of an edit isn't left
pub continues_none : (done : List Edit) (after : ℕ) (k : RowStep) (left all_left : List RowStep) (all : List Edit) → all_left ≡ k ∷ left → ((e : Edit) → k ≡ row_of after e → ⊥) → Continues done after all_left all → ⊥
continues_none done after k left all_left all is_left none c = none_edit after k left c.rest none (sym is_left ∙ c.left_is)

no_edits : (after : ℕ) (rest : List Edit) → [] ≡ rows_of_edits after rest → rest ≡ []
no_edits after [] is = refl
no_edits after (e ∷ rest) is = absurd (cc)

-- where nothing is left all are read
pub continues_end : (done : List Edit) (after : ℕ) (left : List RowStep) (all : List Edit) → left ≡ [] → Continues done after left all → all ≡ done
continues_end done after left all none c =
    c.all_is ∙ ap (λ (rest : List Edit). done ++ rest) (no_edits after c.rest (sym none ∙ c.left_is)) ∙ append-nil done

-- these steps are read, and what is left is the lines of the others
pub record Leads (done : List RecordedStep) (given : ℕ) (left : List Line) (all : List RecordedStep) : Type 0 where
  pub rest : List RecordedStep
  pub all_is : all ≡ done ++ rest
  pub are : AllByRecursion IsStep rest
  pub left_is : left ≡ lines_of_steps given (length done + 1) rest

-- the first step of those that are left
pub record Next (done : List RecordedStep) (given : ℕ) (left : List Line) (all : List RecordedStep) : Type 0 where
  pub step : RecordedStep
  pub more : List RecordedStep
  pub all_is : all ≡ done ++ step ∷ more
  pub is_step : IsStep step
  pub are : AllByRecursion IsStep more
  pub left_is : left ≡ lines_of (length done + 1) (rows_of_step given step) ++ lines_of_steps (given_by_step given step) (length done + 1 + 1) more

next_of : (done : List RecordedStep) (given : ℕ) (left : List Line) (all rest : List RecordedStep) → 0 < length left → all ≡ done ++ rest → AllByRecursion IsStep rest → left ≡ lines_of_steps given (length done + 1) rest → Next done given left all
next_of done given left all [] some all_is are is = absurd (let none : length left ≡ 0 = ap length is in omega (arith, some, none))
next_of done given left all (step ∷ more) some all_is are is = record { step = step; more = more; all_is = all_is; is_step = are.0; are = are.1; left_is = is }

pub leads_next : (done : List RecordedStep) (given : ℕ) (left : List Line) (all : List RecordedStep) → 0 < length left → Leads done given left all → Next done given left all
leads_next done given left all some l = next_of done given left all l.rest some l.all_is l.are l.left_is

-- one step more is read
pub leads_more : (done : List RecordedStep) (given after : ℕ) (left others : List Line) (all : List RecordedStep) (step : RecordedStep) (n : Next done given left all) → step ≡ n.step → after ≡ given_by_step given n.step
    → others ≡ lines_of_steps (given_by_step given n.step) (length done + 1 + 1) n.more → Leads (done ++ step ∷ []) after others all
leads_more done given after left others all step n is_step is_after is_others =
    let long : length (done ++ step ∷ []) ≡ length done + 1 = omega (arith, length-append done (step ∷ [])) in
    record {
      rest = n.more;
      all_is = n.all_is ∙ ap (λ (x : RecordedStep). done ++ x ∷ n.more) (sym is_step) ∙ sym (append_assoc done (step ∷ []) n.more);
      are = n.are;
      left_is = rw (long, is_after) is_others;
    }

no_steps : (given entry : ℕ) (rest : List RecordedStep) → AllByRecursion IsStep rest → [] ≡ lines_of_steps given entry rest → rest ≡ []
no_steps given entry [] are is = refl
no_steps given entry (step ∷ more) are is =
    let long : length (lines_of_steps given entry (step ∷ more)) ≡ 0 = ap length (sym is) in
    absurd (omega (arith, long, length-append (lines_of entry (rows_of_step given step)) (lines_of_steps (given_by_step given step) (entry + 1) more), length-lines entry 0 (rows_of_step given step), some_kept given step are.0))

-- where nothing is left all are read
pub leads_end : (done : List RecordedStep) (given : ℕ) (left : List Line) (all : List RecordedStep) → left ≡ [] → Leads done given left all → all ≡ done
leads_end done given left all none l =
    l.all_is ∙ ap (λ (rest : List RecordedStep). done ++ rest) (no_steps given (length done + 1) l.rest l.are (sym none ∙ l.left_is)) ∙ append-nil done

-- the lines of one record in front of others
pub front_of : (entry : ℕ) (kept : List RowStep) (more left : List Line) (count : ℕ) → left ≡ lines_of entry kept ++ more → count ≡ length kept → (take count left ≡ lines_of entry kept) × (drop count left ≡ more)
front_of entry kept more left count is long =
    let whole : count ≡ length (lines_of entry kept) = omega (arith, long, length-lines entry 0 kept) in (
      rw is (take-append-le count (lines_of entry kept) more (omega (arith, whole)) ∙ take_all count (lines_of entry kept) (omega (arith, whole))),
      rw is (drop-append-le count (lines_of entry kept) more (omega (arith, whole)) ∙ ap (λ (l : List Line). l ++ more) (drop_all count (lines_of entry kept) (omega (arith, whole)))),
    )

-- the lines of a step that is read
pub lines_read : (lines : List Line) (steps : List RecordedStep) (given from count after : ℕ) (step : RecordedStep) → AreOf (length steps + 1) (take count (drop from lines)) → lines ≡ lines_of_steps 0 1 steps ++ drop from lines
    → given ≡ given_by_steps 0 steps → IsReadFrom given (rows_in (take count (drop from lines))) step after → lines ≡ lines_of_steps 0 1 (steps ++ step ∷ []) ++ drop (from + count) lines
lines_read lines steps given from count after step are is is_given read =
    let at = length steps + 1 in
    let own = lines_of at (rows_of_step given step) in
    let front : take count (drop from lines) ≡ own = are ∙ ap (lines_of at) read.kept_is in
    let left : drop from lines ≡ own ++ drop (from + count) lines =
    sym (take-append-drop count (drop from lines)) ∙ ap (λ (l : List Line). l ++ drop count (drop from lines)) front ∙ ap (λ (l : List Line). own ++ l) (drop-drop count from lines) in
    is ∙ ap (λ (l : List Line). lines_of_steps 0 1 steps ++ l) left ∙ sym (append_assoc (lines_of_steps 0 1 steps) own (drop (from + count) lines))
    ∙ ap (λ (l : List Line). l ++ drop (from + count) lines) (sym (steps_then 0 1 steps step given at is_given (omega arith)))

-- and its ids
pub given_read : (steps : List RecordedStep) (given after : ℕ) (kept : List RowStep) (step : RecordedStep) → given ≡ given_by_steps 0 steps → IsReadFrom given kept step after → after ≡ given_by_steps 0 (steps ++ step ∷ [])
given_read steps given after kept step is_given read = read.after_is ∙ ap (λ (n : ℕ). given_by_step n step) is_given ∙ sym (given_then 0 steps step)

-- a step that is read has a line
pub some_lines : (given after count : ℕ) (left : List Line) (step : RecordedStep) → count ≤ length left → IsReadFrom given (rows_in (take count left)) step after → 0 < count
some_lines given after count left step fits read =
    let long : length (rows_in (take count left)) ≡ length (rows_of_step given step) = ap length read.kept_is in
    omega (arith, long, length-kept (take count left), length-take-le count left fits, some_kept given step read.is_step)

-- what an option has, or this
abbrev one_of : {X : Type 0} → Option X → X → X
one_of None x = x
one_of (Some y) x = y

module _ (done : List RecordedStep) (given from count : ℕ) (lines : List Line) (all : List RecordedStep) (some : 0 < length (drop from lines))
    (counts : (kept : List RowStep) (more : List Line) → drop from lines ≡ lines_of (length done + 1) kept ++ more → BeginOther (length done + 1) more → count ≡ length kept) where
  next_long : (n : Next done given (drop from lines) all) → count ≡ length (rows_of_step given n.step)
  next_long n = counts _ _ n.left_is (begin_other (given_by_step given n.step) (length done + 1) n.more n.are)

  next_kept : (n : Next done given (drop from lines) all) → rows_in (take count (drop from lines)) ≡ rows_of_step given n.step
  next_kept n =
      let parts = front_of (length done + 1) (rows_of_step given n.step) _ (drop from lines) count n.left_is (next_long n) in
      ap rows_in parts.0 ∙ kept-lines (length done + 1) 0 (rows_of_step given n.step)

  -- one step more is read
  pub read_leads : (after : ℕ) (step : RecordedStep) → ((s : RecordedStep) → IsStep s → rows_in (take count (drop from lines)) ≡ rows_of_step given s → ◌≡◌ {A = Option (RecordedStep × ℕ)} (Some (step, after)) (Some (s, given_by_step given s)))
      → Leads done given (drop from lines) all → Leads (done ++ step ∷ []) after (drop (from + count) lines) all
  read_leads after step only leads =
      let n = leads_next done given (drop from lines) all some leads in
      let parts = front_of (length done + 1) (rows_of_step given n.step) _ (drop from lines) count n.left_is (next_long n) in
      let same = only n.step n.is_step (next_kept n) in
      let whole : ◌≡◌ {A = RecordedStep × ℕ} (step, after) (n.step, given_by_step given n.step) = ap (λ (o : Option (RecordedStep × ℕ)). one_of o (step, after)) same in
      let is_step : step ≡ n.step = ap (λ (x : RecordedStep × ℕ). x.0) whole in
      let is_after : after ≡ given_by_step given n.step = ap (λ (x : RecordedStep × ℕ). x.1) whole in
      leads_more done given after (drop from lines) (drop (from + count) lines) all step n is_step is_after (sym (drop-drop count from lines) ∙ parts.1)

  -- what isn't kept of a step isn't left
  pub read_none : ((s : RecordedStep) → IsStep s → rows_in (take count (drop from lines)) ≡ rows_of_step given s → ⊥) → Leads done given (drop from lines) all → ⊥
  read_none none leads = let n = leads_next done given (drop from lines) all some leads in none n.step n.is_step (next_kept n)
