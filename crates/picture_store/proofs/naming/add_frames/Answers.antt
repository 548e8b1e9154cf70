use Rattle.std.proofs.Common.{◌≡◌, ◌∙◌, ap, sym, ◌++◌, ◌+◌, ◌∷◌, [], ℕ, List, take, append_assoc}
use Rattle.std.proofs.lemmas.List.{take_more}
use Rattle.picture_store.specs.Referenced.{added, each_once}
use Rattle.picture_store.proofs.Referring.{once_added}
use Rattle.picture_store.proofs.naming.add_frames.Goals as goal

pub loop-frame-preserved : goal.loop-frame-preserved
loop-frame-preserved c = λ front is.
    let more = c.args.more.now in
    let at = c.loop-frame.frame-index in
    let frame = c.frame-item.result in
    let taken : take (at + 1) more ≡ take at more ++ frame ∷ [] =
    take_more more at frame c.loop-frame-test.true ∙ ap (λ (f : ℕ). take at more ++ f ∷ []) (sym c.frame-item.is) in
    c.in_ok-add_frame.ensures
    ∙ ap (λ (old : List ℕ). old ++ added frame old) (c.loop-frame.invariant front is)
    ∙ sym (once_added (front ++ take at more) frame)
    ∙ ap each_once (append_assoc front (take at more) (frame ∷ []) ∙ ap (λ (xs : List ℕ). front ++ xs) (sym taken))
