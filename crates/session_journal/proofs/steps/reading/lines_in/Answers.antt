use Rattle.std.proofs.Common.{◌≡◌, ◌≢◌, ◌+◌, [], ℕ, List, length, take, drop, sym, ap, subst, ◌∙◌, arith}
use Rattle.std.proofs.lemmas.List.{drop_all, length-take-le, take-append-drop, take_all}
use Rattle.edit_journal.specs.declared.line.Line.{Line}
use Rattle.session_journal.specs.Records.{AreOf}
use Rattle.session_journal.proofs.KeptLemmas.{drop_item, take_item}
use Rattle.session_journal.proofs.LineLemmas.{EndFrom, ends, from_more}
use Rattle.session_journal.proofs.steps.reading.lines_in.Goals as goal
use Rattle.session_journal.proofs.steps.reading.lines_in.Goals.{then-line-entry-via-then-line-entry, then-line-entry-via-else-line-entry+then-line-count}

pub returns-then-line-entry-clause-all : goal.returns-then-line-entry-clause-all
returns-then-line-entry-clause-all c kept more is other =
    let l = c.loop-line in
    let lines = c.args.lines.now in
    let line = c.line-item.result in
    let long : length (take l.line-index lines) ≡ l.line-index = length-take-le l.line-index lines (omega (arith, c.loop-line-test.true)) in
    let end : line.entry ≡ c.args.entry → line.place ≢ l.count =
    elim c.then-line-entry.branch [ then-line-entry-via-then-line-entry w ↦ λ e p. w.if-line-entry.true e | then-line-entry-via-else-line-entry+then-line-count w ↦ λ e p. omega (arith, w.if-line-count.true, p) ] in
    let at : l.count ≡ 0 + length (take l.line-index lines) = omega (arith, l.invariant.count, long) in
    let tail : EndFrom c.args.entry (0 + length (take l.line-index lines)) (drop l.line-index lines) =
    subst (λ (t : List Line). EndFrom c.args.entry (0 + length (take l.line-index lines)) t) (sym (drop_item lines l.line-index line c.loop-line-test.true c.line-item.is))
    (subst (λ (n : ℕ). line.entry ≡ c.args.entry → line.place ≢ n) at end) in
    l.invariant.count ∙ sym long ∙ ends c.args.entry 0 (take l.line-index lines) (drop l.line-index lines) kept more l.invariant.are tail other (take-append-drop l.line-index lines ∙ is)

pub loop-line-preserved : goal.loop-line-preserved
loop-line-preserved c =
    let l = c.loop-line in
    let lines = c.args.lines.now in
    let line = c.line-item.result in
    let long : length (take l.line-index lines) ≡ l.line-index = length-take-le l.line-index lines (omega (arith, c.loop-line-test.true)) in
    record {
      count = omega (arith, l.invariant.count);
      are = subst (AreOf c.args.entry) (sym (take_item lines l.line-index line c.loop-line-test.true c.line-item.is))
          (from_more c.args.entry 0 (take l.line-index lines) line l.count c.if-line-entry.false (omega (arith, c.if-line-count.false)) (omega (arith, l.invariant.count, long)) l.invariant.are);
    }

pub returns-clause-all : goal.returns-clause-all
returns-clause-all c kept more is other =
    let l = c.loop-line in
    let lines = c.args.lines.now in
    let whole : take l.line-index lines ≡ lines = take_all l.line-index lines c.loop-line-test.false in
    let long : length (take l.line-index lines) ≡ length lines = ap length whole in
    let same : l.line-index ≡ length lines = omega (arith, c.loop-line-test.false, l.auto.line-index-end) in
    let none : drop l.line-index lines ≡ [] = drop_all l.line-index lines c.loop-line-test.false in
    l.invariant.count ∙ same ∙ sym long ∙ ends c.args.entry 0 (take l.line-index lines) (drop l.line-index lines) kept more l.invariant.are
    (subst (λ (t : List Line). EndFrom c.args.entry (0 + length (take l.line-index lines)) t) (sym none) tt) other (take-append-drop l.line-index lines ∙ is)
