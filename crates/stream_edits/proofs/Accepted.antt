-- The units of a stream were accepted.
use Rattle.std.proofs.Common.{◌≡◌, ℕ, suc, List, [], ◌∷◌, take, drop, All, None, subst}
use Rattle.std.proofs.lemmas.List.Elements.{All-cons, All-append, All-take, All-drop, All-set}
use Rattle.access_unit.specs.Refusals.{refusal_of}
use Rattle.stream_edits.specs.declared.edits.Edit.{Edit}
use Rattle.stream_edits.specs.declared.edits.Edit.TheVariants.{Insert, Delete, Replace}
use Rattle.stream_edits.specs.Streams.{Stream}
use Rattle.stream_edits.specs.Edits.{Register, Makes, Replays}

-- a unit isn't refused
abbrev pub IsNotRefused : ℕ × List (List ℕ) → Type 0
IsNotRefused unit = refusal_of unit.1 ≡ None

-- no unit of a stream is
abbrev pub AreAccepted : Stream → Type 0
AreAccepted stream = All IsNotRefused stream

-- an accepted edit
pub accepted-made : (old : Register) (edit : Edit) (id : ℕ) (new : Register) → AreAccepted old.stream → Makes old edit id new
    → AreAccepted new.stream
accepted-made old (Insert place text) id new all makes =
    rw makes.stream_is
    (All-append IsNotRefused (take makes.at old.stream) ((id, makes.unit) ∷ drop makes.at old.stream)
    (All-take IsNotRefused makes.at old.stream all)
    (All-cons IsNotRefused (id, makes.unit) (drop makes.at old.stream) makes.accepted.sound (All-drop IsNotRefused makes.at old.stream all)))
accepted-made old (Delete deleted) id new all makes =
    rw makes.1.stream_is
    (All-append IsNotRefused (take makes.1.at old.stream) (drop (suc makes.1.at) old.stream)
    (All-take IsNotRefused makes.1.at old.stream all) (All-drop IsNotRefused (suc makes.1.at) old.stream all))
accepted-made old (Replace replaced text) id new all makes =
    rw makes.1.stream_is
    (All-set IsNotRefused old.stream makes.1.at (replaced, makes.1.unit) makes.1.accepted.sound all)

-- accepted edits, one after the other
pub accepted-replayed : (from : Register) (edits : List Edit) (to : Register) → AreAccepted from.stream → Replays from edits to
    → AreAccepted to.stream
accepted-replayed from [] to all is = subst (λ (register : Register). AreAccepted register.stream) is all
accepted-replayed from (edit ∷ edits) to all replays =
    accepted-replayed replays.1 edits to (accepted-made from edit replays.0 replays.1 all replays.2) replays.3
