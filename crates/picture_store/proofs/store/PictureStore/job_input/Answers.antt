use Rattle.std.proofs.Common.{sym, subst}
use Rattle.std.proofs.lemmas.List.Elements.{All-get_or}
use Rattle.picture_store.specs.Stored.{IsJobRight}
use Rattle.picture_store.proofs.ByNumber.{input_at, input_none}
use Rattle.picture_store.proofs.store.PictureStore.job_input.Goals as goal

pub returns-in-Some-clause-value : goal.returns-in-Some-clause-value
returns-in-Some-clause-value g c =
    let s = c.self.inside in
    let first = rw c.deref.ensures.value at c.in-Some.ensures.value in
    let within = rw c.deref.ensures.value at c.in-Some.ensures.inside in
    rw (← c.self.view_is) (input_at s.keys s.jobs_out.items c.args.number c.in-Some.at c.index.result.now within c.index.ensures (sym first))

pub returns-in-None-clause-value : goal.returns-in-None-clause-value
returns-in-None-clause-value g c =
    let s = c.self.inside in
    let none = rw c.deref.ensures.value at c.in-None.ensures.value in
    rw (← c.self.view_is) (input_none s.keys s.jobs_out.items c.args.number (sym none))

pub returns-in-Some-clause-whole : goal.returns-in-Some-clause-whole
returns-in-Some-clause-whole g c =
    let s = c.self.inside in
    let within = rw c.deref.ensures.value at c.in-Some.ensures.inside in
    (subst (IsJobRight g.P.Decoded.IsDecoded g.P.Decoded.IsOf s.keys) (sym c.index.ensures)
    (All-get_or (IsJobRight g.P.Decoded.IsDecoded g.P.Decoded.IsOf s.keys) s.jobs_out.items c.in-Some.at c.index.result.now within
    c.self.invariant.kept.jobs)).3
