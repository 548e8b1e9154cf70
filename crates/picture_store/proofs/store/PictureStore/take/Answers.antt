use Rattle.std.proofs.Common.{◌≡◌, refl, sym, ◌∙◌, subst, Some, IfSome, length, slice_get}
use Rattle.std.proofs.lemmas.Option.{slice_get_read}
use Rattle.std.proofs.lemmas.Result.{err_from_is_err_and}
use Rattle.std.specs.Prelude.{Err}
use Rattle.picture_store.specs.Due.{IsDueNumber}
use Rattle.picture_store.specs.Jobs.{AnswersTake}
use Rattle.picture_store.specs.Stores.{StoreValue}
use Rattle.picture_store.specs.Marks.{marked_for}
use Rattle.picture_store.proofs.Looked.{later_looked}
use Rattle.picture_store.proofs.Pended.{due_of, one_out}
use Rattle.picture_store.proofs.Taken.{none_due, taken}
use Rattle.picture_store.proofs.TakenFor.{refusal_answered}
use Rattle.picture_store.proofs.Viewed.{viewed}
use Rattle.picture_store.proofs.store.PictureStore.take.Goals as goal

pub first_due-due-requires-clause-before : goal.first_due-due-requires-clause-before
first_due-due-requires-clause-before g c =
    let s = c.self.inside in
    let settled = rw (c.deref.ensures.value, c.deref-2.ensures.value) at c.first_to_do-settled.ensures in
    rw (c.deref-3.ensures.value, c.deref-4.ensures.value)
    (later_looked s.keys s.key_slots s.jobs_out.items s.numbers.items c.first_to_do-settled.result s.units_not_due c.max-from.result
    c.max-from.ensures settled c.self.invariant.searched)

pub returns-in_default-clause-tells : goal.returns-in_default-clause-tells
returns-in_default-clause-tells g c =
    let s = c.self.inside in
    let none = rw (c.deref-3.ensures.value, c.deref-4.ensures.value) at c.in_default.ensures in
    rw (← c.self.view_is) (none_due s.keys s.ids.items s.outcomes.items s.numbers.items s.key_slots s.cache.pairs s.cache.capacity s.jobs_out.items s.jobs_given s.released.items (marked_for s.keys s.mark) c.self.invariant.kept none, refl)

pub returns-in_default-clause-waits : goal.returns-in_default-clause-waits
returns-in_default-clause-waits g c =
    let s = c.self.inside in
    let none = rw (c.deref-3.ensures.value, c.deref-4.ensures.value) at c.in_default.ensures in
    rw (← c.self.view_is)
    (λ is at pending. one_out s.keys s.ids.items s.outcomes.items s.numbers.items s.key_slots s.cache.pairs s.cache.capacity s.jobs_out.items s.jobs_given s.released.items (marked_for s.keys s.mark)
    c.self.invariant.kept at (λ place needed due. none_due s.keys s.ids.items s.outcomes.items s.numbers.items s.key_slots s.cache.pairs s.cache.capacity s.jobs_out.items s.jobs_given s.released.items (marked_for s.keys s.mark)
    c.self.invariant.kept none (due.0, due.2)) pending)

pub give-requires-clause-number : goal.give-requires-clause-number
give-requires-clause-number g c =
    let s = c.self.inside in
    let first = rw (c.deref-3.ensures.value, c.deref-4.ensures.value) at c.in-Some.ensures in
    let key = c.in-Some-index.key in
    let is = rw (c.in-Some-index.is) at c.index.ensures in
    let due : IsDueNumber s.keys s.key_slots s.jobs_out.items key =
    subst (λ o. IfSome o (IsDueNumber s.keys s.key_slots s.jobs_out.items)) (sym is) (first.1 (Some key)) in
    let there : slice_get s.numbers.items c.in-Some.at ≡ Some (Some key) =
    slice_get_read s.numbers.items (length s.numbers.items) c.in-Some.at (Some key) refl first.0 is in
    there

pub give-requires-clause-due : goal.give-requires-clause-due
give-requires-clause-due g c =
    let s = c.self.inside in
    let first = rw (c.deref-3.ensures.value, c.deref-4.ensures.value) at c.in-Some.ensures in
    let key = c.in-Some-index.key in
    let is = rw (c.in-Some-index.is) at c.index.ensures in
    let due : IsDueNumber s.keys s.key_slots s.jobs_out.items key =
    subst (λ o. IfSome o (IsDueNumber s.keys s.key_slots s.jobs_out.items)) (sym is) (first.1 (Some key)) in
    let there : slice_get s.numbers.items c.in-Some.at ≡ Some (Some key) =
    slice_get_read s.numbers.items (length s.numbers.items) c.in-Some.at (Some key) refl first.0 is in
    due_of s.keys s.ids.items s.outcomes.items s.numbers.items s.key_slots s.cache.pairs s.cache.capacity s.jobs_out.items s.jobs_given s.released.items (marked_for s.keys s.mark) c.self.invariant.kept c.in-Some.at
    (key, there, due)

pub returns-in_err-give-clause-tells : goal.returns-in_err-give-clause-tells
returns-in_err-give-clause-tells g c =
    let s = c.self.inside in
    let first = rw (c.deref-3.ensures.value, c.deref-4.ensures.value) at c.in-Some.ensures in
    let key = c.in-Some-index.key in
    let is = rw (c.in-Some-index.is) at c.index.ensures in
    let due : IsDueNumber s.keys s.key_slots s.jobs_out.items key =
    subst (λ o. IfSome o (IsDueNumber s.keys s.key_slots s.jobs_out.items)) (sym is) (first.1 (Some key)) in
    let there : slice_get s.numbers.items c.in-Some.at ≡ Some (Some key) =
    slice_get_read s.numbers.items (length s.numbers.items) c.in-Some.at (Some key) refl first.0 is in
    let p = err_from_is_err_and c.from_residual.result c.from_residual.ensures.1 in
    rw (p.1, p.2)
    (subst (λ (old : StoreValue g.row.P.Denot). AnswersTake g.P.Decoded.IsOf old (Err c.in_err-give.field-0.0) c.give.new.self) c.self.view_is
    (refusal_answered g.P.Decoded.IsOf (viewed s.keys s.ids.items s.outcomes.items s.numbers.items s.key_slots s.cache.pairs s.cache.capacity s.jobs_out.items s.jobs_given s.released.items (marked_for s.keys s.mark))
    c.in-Some.at c.in_err-give.field-0.0 c.give.new.self
    (due_of s.keys s.ids.items s.outcomes.items s.numbers.items s.key_slots s.cache.pairs s.cache.capacity s.jobs_out.items s.jobs_given s.released.items (marked_for s.keys s.mark) c.self.invariant.kept c.in-Some.at
    (key, there, due)) c.in_err-give.ensures))

pub returns-clause-tells : goal.returns-clause-tells
returns-clause-tells g c =
    let s = c.self.inside in
    let first = rw (c.deref-3.ensures.value, c.deref-4.ensures.value) at c.in-Some.ensures in
    let key = c.in-Some-index.key in
    let is = rw (c.in-Some-index.is) at c.index.ensures in
    let due : IsDueNumber s.keys s.key_slots s.jobs_out.items key =
    subst (λ o. IfSome o (IsDueNumber s.keys s.key_slots s.jobs_out.items)) (sym is) (first.1 (Some key)) in
    let there : slice_get s.numbers.items c.in-Some.at ≡ Some (Some key) =
    slice_get_read s.numbers.items (length s.numbers.items) c.in-Some.at (Some key) refl first.0 is in
    let gives = c.in_ok-give.ensures in
    let is_taken = taken s.keys s.ids.items s.outcomes.items s.numbers.items s.key_slots s.cache.pairs s.cache.capacity s.jobs_out.items s.jobs_given s.released.items (marked_for s.keys s.mark) c.self.invariant.kept
    c.in-Some.at first.0 key is due c.in_ok-give.field-0.job c.give.new.self gives.1 first.2 in
    rw (← c.self.view_is) (is_taken.0, gives.0 ∙ is_taken.1)
