-- What is made by one change is an edit, or a group of them.
use Rattle.std.proofs.Common.{◌≡◌, ℕ, List, [], ◌∷◌, length, sym, subst, arith}
use Rattle.picture_keys.specs.declared.changed_units.changed.Changed.{Changed}
use Rattle.stream_edits.specs.declared.accepting.AcceptedEdit.{AcceptedEdit}
use Rattle.stream_edits.specs.declared.accepting.AcceptedGroup.{AcceptedGroup}
use Rattle.stream_edits.specs.declared.edits.Edit.{Edit}
use Rattle.stream_edits.specs.declared.receipts.GroupReceipt.{GroupReceipt}
use Rattle.stream_edits.specs.Changes.{IsFor, after}
use Rattle.stream_edits.specs.Edits.{Register, Makes}
use Rattle.stream_edits.specs.Groups.{IsForAll, MakesAll}
use Rattle.stream_edits.specs.Ids.{HasIds}
use Rattle.stream_edits.specs.Reading.{AreHashedFor, IsHashedFor}
use Rattle.stream_edits.proofs.Grouped.{HasIds-all}
use Rattle.stream_session.specs.Machines.{Machine, Edits}
use Rattle.stream_session.specs.Grouping.{AreCounted, AreFewForAll, EditsAll}
use Rattle.stream_session.specs.Moves.{Moves}
use Rattle.stream_session.proofs.Meetings.{counted_among, few_everywhere}

module _ {P : Type 0} where
  -- an edit by itself
  pub Edits-moved : (old : Machine P) (edit : Edit) (accepted : AcceptedEdit) (steps lost hashed number : ℕ) (changed : Changed)
      (new : Machine P)
      → IsFor old.register edit accepted → Moves old (edit ∷ []) accepted.change accepted.ids_given steps lost changed new → number ≡ length new.journal
      → IsHashedFor edit hashed
      → Edits old edit (record { number = number; id = accepted.id; steps = steps; hashed = hashed; lost_pictures = lost; changed = changed }) new
  Edits-moved old edit accepted steps lost hashed number changed new for moves number_is hashes = record {
    made = subst (λ register. Makes old.register edit accepted.id register) (sym moves.register_is) for.makes;
    origin_stays = moves.origin_stays;
    journaled = moves.journaled;
    refits = moves.refits;
    loses = moves.loses;
    number_is = number_is;
    refolds = record {
      accepted = accepted;
      comes_to = for;
      leaves = moves.register_is;
      few = λ count is. let few = moves.few count is in let one = for.brings_one in omega (arith, few, one);
      counted = moves.counted;
    };
    hashes = hashes;
    changes = moves.changes;
  }

  -- a group of edits
  pub EditsAll-moved : (old : Machine P) (edits : List Edit) (accepted : AcceptedGroup) (receipt : GroupReceipt) (new : Machine P)
      → HasIds old.register → IsForAll old.register edits accepted → Moves old edits accepted.change accepted.ids_given receipt.steps receipt.lost_pictures receipt.changed new
      → receipt.number ≡ length new.journal → receipt.ids.items ≡ accepted.ids.items → AreHashedFor edits receipt.hashed
      → EditsAll old edits receipt new
  EditsAll-moved old edits accepted receipt new ids for moves number_is ids_are hashes = record {
    sized = for.sized;
    made =
        subst (λ ids. MakesAll old.register edits ids new.register) (sym ids_are)
        (subst (λ register. MakesAll old.register edits accepted.ids.items register) (sym moves.register_is) for.makes);
    origin_stays = moves.origin_stays;
    journaled = moves.journaled;
    refits = moves.refits;
    loses = moves.loses;
    number_is = number_is;
    few =
        subst (λ (register : Register). AreFewForAll old.register.stream register.stream receipt.steps) (sym moves.register_is)
        (few_everywhere accepted.change old.register.stream receipt.steps for.inside moves.few for.front for.rest ids.once
        (HasIds-all old.register edits accepted.ids.items (after accepted.change accepted.ids_given old.register.stream) ids for.makes).once);
    counted =
        subst (λ (register : Register). AreCounted old.register.stream register.stream receipt.steps) (sym moves.register_is)
        (counted_among accepted.change old.register.stream receipt.steps for.inside moves.few for.front for.rest moves.counted);
    hashes = hashes;
    changes = moves.changes;
  }
