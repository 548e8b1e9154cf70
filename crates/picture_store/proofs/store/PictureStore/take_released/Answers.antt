use Rattle.std.proofs.Common.{◌∷◌, List, refl, sym, subst}
use Rattle.std.specs.Prelude.{IsPermutation}
use Rattle.std.proofs.lemmas.List.Sorted.{IsPermutation-swap_remove}
use Rattle.picture_store.specs.Unreferred.{IsFree}
use Rattle.picture_store.proofs.ByNumber.{free_seen, none_free}
use Rattle.picture_store.proofs.store.PictureStore.take_released.Goals as goal

pub returns-in_err-at : goal.returns-in_err-at
returns-in_err-at g c =
    let s = c.self.inside in
    let none = rw (c.deref.ensures.value, c.deref-2.ensures.value, c.in_err-at.was {u = tt}) at c.first_free.ensures in
    rw (c.from_residual.ensures, ← c.self.view_is) (none_free s.keys s.jobs_out.items s.released.items none, refl)

pub returns : goal.returns
returns g c =
    let s = c.self.inside in
    let free = rw (c.deref.ensures.value, c.deref-2.ensures.value, c.in_ok-at.was {u = tt}) at c.first_free.ensures in
    let picture = c.swap_remove.result in
    rw (← c.self.view_is) (
      free_seen s.keys s.jobs_out.items picture (subst (IsFree s.jobs_out.items) (sym c.swap_remove.ensures.value) (free.1 picture)),
      subst (λ (left : List g.row.P.Denot). IsPermutation s.released.items (picture ∷ left)) (sym c.swap_remove.ensures.items)
          (IsPermutation-swap_remove s.released.items c.in_ok-at.at picture free.0 c.swap_remove.ensures.value),
      refl,
    )
