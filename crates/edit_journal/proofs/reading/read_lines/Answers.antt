use Rattle.std.proofs.Common.{◌≡◌, [], List, sym, subst, arith, rules}
use Rattle.sqlite_trees.specs.View.{IsClean}
use Rattle.edit_journal.specs.declared.line.Line.{Line}
use Rattle.edit_journal.specs.Journals.{Takes}
use Rattle.edit_journal.proofs.ViewLemmas.{Reads, reads_begin, reads_more, reads_all, quiet_then}
use Rattle.edit_journal.proofs.reading.read_lines.Goals as goal

pub loop-number-init : goal.loop-number-init
loop-number-init g c = let none : [] ≡ c.new-lines.result.items = search rules in record {
  live = c.in_ok-seek.ensures.live;
  count = omega arith;
  reads = λ clean.
      subst (λ (lines : List Line). Reads (g.S.Store.view c.args.store.now) (g.S.Store.view c.seek-2.new.self) lines) none
      (reads_begin (g.S.Store.view c.args.store.now) (g.S.Store.view c.seek-2.new.self) _ (c.in_ok-seek.ensures.sound clean) (c.in_ok-seek.ensures.ok clean) (search rules));
  quiet = c.seek-2.ensures.quiet;
}

pub loop-number-preserved : goal.loop-number-preserved
loop-number-preserved g c =
    let l = c.loop-number in
    let old = g.S.Store.view c.args.store.now in
    let now = g.S.Store.view l.store in
    let new = g.S.Store.view c.next_line.new.store in
    record {
      live = c.in_ok-line.ensures.live;
      count = grind (arith, c.in_ok-push.ensures.items, l.invariant.count);
      reads = λ clean.
          let early : IsClean now = omega (arith, c.next_line.ensures.quiet.clean, clean) in
          subst (λ (lines : List Line). Reads old new lines) (sym c.in_ok-push.ensures.items)
          (reads_more old now new l.lines.items c.in-Some.line l.number l.invariant.count (l.invariant.reads early) (subst (Takes now new l.number) c.in-Some.is (c.in_ok-line.ensures.takes clean)));
      quiet = quiet_then g.S.Store c.args.store.now l.store c.next_line.new.store l.invariant.quiet c.next_line.ensures.quiet;
    }

pub returns-in_default-clause-read : goal.returns-in_default-clause-read
returns-in_default-clause-read g c clean =
    let l = c.loop-number in
    let old = g.S.Store.view c.args.store.now in
    let now = g.S.Store.view l.store in
    let new = g.S.Store.view c.next_line.new.store in
    let early : IsClean now = omega (arith, c.next_line.ensures.quiet.clean, clean) in
    (reads_all old now new l.lines.items l.number (l.invariant.reads early) (subst (Takes now new l.number) c.in_default.is (c.in_ok-line.ensures.takes clean))).0

pub returns-in_default-clause-seeks : goal.returns-in_default-clause-seeks
returns-in_default-clause-seeks g c clean =
    let l = c.loop-number in
    let old = g.S.Store.view c.args.store.now in
    let now = g.S.Store.view l.store in
    let new = g.S.Store.view c.next_line.new.store in
    let early : IsClean now = omega (arith, c.next_line.ensures.quiet.clean, clean) in
    (reads_all old now new l.lines.items l.number (l.invariant.reads early) (subst (Takes now new l.number) c.in_default.is (c.in_ok-line.ensures.takes clean))).1

pub returns-in_default-clause-quiet : goal.returns-in_default-clause-quiet
returns-in_default-clause-quiet g c = quiet_then g.S.Store c.args.store.now c.loop-number.store c.next_line.new.store c.loop-number.invariant.quiet c.next_line.ensures.quiet
