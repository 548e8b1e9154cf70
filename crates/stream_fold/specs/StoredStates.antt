-- What a folded stream stores.
use Rattle.std.specs.Prelude.{◌≡◌, ℕ, ◌+◌, ◌<◌, ◌≤◌, List, Contains, length, Option, IfSome}
use Rattle.std.specs.Map.{keys_of}
use Rattle.request_core.specs.States.{FoldState, no_units}
use Rattle.request_core.specs.Agreement.{Stream, state_from}
use Rattle.checkpoints.specs.Stored.{Stored, IsStoredAt}
use Rattle.checkpoints.specs.Spacing.{HasNear}
use Rattle.stream_fold.specs.declared.refold.ResumePoint.{ResumePoint}
use Rattle.stream_fold.specs.Streams.{state_past}

-- the stream, the states that are stored along it, and for how many more units there is room
pub record FoldedValue : Type 0 where
  pub stream : Stream
  pub stored : Stored FoldState
  pub units_spare : ℕ

-- how far stored states stand apart at most, in units
abbrev pub spacing : ℕ
spacing = 32

-- the state is that past the place, which is one of the stream's
pub record IsPast (stream : Stream) (place : ℕ) (state : FoldState) : Type 0 where
  pub within : place ≤ length stream
  pub is : state ≡ state_past stream place

-- the place to which a fold has come, if one is kept, is one up to this one, with the state past it
abbrev pub IsResumePoint : Stream → ℕ → Option ResumePoint → Type 0
IsResumePoint stream at resume_point =
    IfSome resume_point (λ resume_point. (resume_point.place ≤ at) × (resume_point.state ≡ state_past stream resume_point.place))

-- each stored state is that past its place
abbrev pub ArePast : Stream → List (ℕ × FoldState) → Type 0
ArePast stream states =
    (place : ℕ) (state : FoldState) → IsStoredAt states place state → IsPast stream place state

-- of each unit a state is stored at its place, or less than the spacing before it
abbrev pub AreNear : Stream → List (ℕ × FoldState) → Type 0
AreNear stream states = (k : ℕ) → k < length stream → HasNear spacing (keys_of states) k

-- of three places at which states are stored the last is more than the spacing past the first
abbrev pub AreSparse : List (ℕ × FoldState) → Type 0
AreSparse states =
    (first between last : ℕ) → Contains (keys_of states) first → Contains (keys_of states) between → Contains (keys_of states) last
    → first < between → between < last → first + spacing < last

-- stored states and the last state are those of the stream
pub record IsFolded (stream : Stream) (states : List (ℕ × FoldState)) (end : FoldState) : Type 0 where
  pub past : ArePast stream states
  pub near : AreNear stream states
  pub sparse : AreSparse states
  pub end_is : end ≡ state_from no_units stream
