-- Entries that are made on a session.
use Rattle.std.proofs.Common.{◌≡◌, ℕ, List, [], ◌∷◌, sym, subst}
use Rattle.stream_edits.specs.declared.edits.Edit.{Edit}
use Rattle.stream_edits.specs.declared.receipts.GroupReceipt.{GroupReceipt}
use Rattle.stream_edits.specs.declared.receipts.Receipt.{Receipt}
use Rattle.stream_edits.specs.Groups.{MakesAll}
use Rattle.stream_edits.proofs.Grouped.{MakesAll-one}
use Rattle.stream_session.specs.Grouping.{EditsAll}
use Rattle.stand_in_session.specs.Machines.{Machine}
use Rattle.stream_session.specs.Machines.{Edits}
use Rattle.seat_books.specs.Following.{MakesEntry}

-- an edit by itself
pub made_one : (old new : Machine) (edit copy : Edit) (receipt : Receipt) (ids : List ℕ) → copy ≡ edit
    → ids ≡ receipt.id ∷ [] → Edits old copy receipt new → MakesEntry old (edit ∷ []) ids new
made_one old new edit copy receipt ids same are made =
    let edits : Edits old edit receipt new = subst (λ (e : Edit). Edits old e receipt new) same made in
    record {
      made =
          subst (λ (ks : List ℕ). MakesAll old.register (edit ∷ []) ks new.register) (sym are)
          (MakesAll-one old.register edit receipt.id new.register edits.made);
      journaled = edits.journaled;
    }

-- edits together
pub made_several : (old new : Machine) (edits copies : List Edit) (receipt : GroupReceipt) → copies ≡ edits
    → EditsAll old copies receipt new → MakesEntry old edits receipt.ids.items new
made_several old new edits copies receipt same made =
    let all : EditsAll old edits receipt new = subst (λ (es : List Edit). EditsAll old es receipt new) same made in
    record { made = all.made; journaled = all.journaled }
