-- How far a stream is mended, while it is read.
use Rattle.std.proofs.Common.{◌≡◌, ℕ, ◌-◌, List, [], ◌∷◌, ◌++◌, length, drop, codes, Option, None, Some, ap, sym, ◌∙◌, subst, refl, arith, length-append}
use Rattle.std.proofs.KnownBytes.{Appends-nil, Appends-trans}
use Rattle.std.proofs.lemmas.List.{append-nil}
use Rattle.std.specs.Io.KnownBytes.{Appends, IsAtEnd, prepend_known}
use Rattle.std.specs.Prelude.{Result, Ok, Err, IfOk, IfErr, IsOk}
use Rattle.console_io.specs.Chunks.{AppendsFront}
use Rattle.console_io.specs.Messages.{Tells}
use Rattle.console_io.specs.declared.chunks.PrintFault.{PrintFault}
use Rattle.console_io.proofs.Chunked.{front-all, front-after, front-wider}
use Rattle.stream_mending.specs.Mended.{mended, told}
use Rattle.stream_mending.specs.Mending.{IsFrontOf, IsMendedUpTo}
use Rattle.stream_mending.specs.declared.mender.Mender.{Mender}
use Rattle.stream_mending.specs.declared.why.LeftOut.{LeftOut}
use Rattle.stream_mending.proofs.Fronts.{said_first, written_first}
use Rattle.mend_run.specs.Runs.{AreLeft, EndsBy, IsBroken, IsSoFar, IsWhole, PassesFront, told_text}
use Rattle.mend_run.specs.declared.running.MendFault.{MendFault}
use Rattle.mend_run.specs.declared.running.MendFault.TheVariants.{Unread, Memory, Unwritten}
use lib.Seq.{drop-append_seam}

-- what is left has what is held first
pub left-known : (held : List ℕ) (rest : Option (List ℕ)) (left : List ℕ) → AreLeft held rest left
    → (more : List ℕ) × (rest ≡ Some more) × (left ≡ held ++ more)
left-known held None left is = cc
left-known held (Some more) left is = (more, refl, cc)

-- the last bytes of a list
pub last-bytes : (all taken rest : List ℕ) → all ≡ taken ++ rest → drop (length all - length rest) all ≡ rest
last-bytes all taken rest is =
    let long : length all - length rest ≡ length taken = omega (arith, ap length is, length-append taken rest) in
    ap (λ n. drop n all) long ∙ ap (drop (length taken)) is ∙ drop-append_seam taken rest

-- a front of what is there, and all of it
pub front-whole : (a b : Option (List ℕ)) (front all : List ℕ) → Appends a b front → IsFrontOf front all → AppendsFront a b all
front-whole a b front all got is =
    subst (AppendsFront a b) (sym is.1) (front-wider a b front is.0 (front-all a b front got))

pub front-cut : (a b : Option (List ℕ)) (front all : List ℕ) → AppendsFront a b front → IsFrontOf front all → AppendsFront a b all
front-cut a b front all got is = subst (AppendsFront a b) (sym is.1) (front-wider a b front is.0 got)

module _ {T : Type 0} where
  -- before the first byte
  pub begins : (known had heard : Option (List ℕ)) (mute : Type 0) (listens : Result T PrintFault) (mender : Mender) (held : List ℕ)
      → IsOk listens → held ≡ [] → ((text : List ℕ) → IsMendedUpTo text [] [] text mender)
      → IsSoFar known mender held known had had mute heard heard listens
  begins known had heard mute (Err it) mender held ok none new = cc
  begins known had heard mute (Ok x) mender held ok none new = record {
    written = [];
    said = [];
    got = Appends-nil had;
    tells = Appends-nil heard;
    mends = λ text is.
        (text, ap (λ h. prepend_known h known) none ∙ ap (prepend_known []) is, new text);
  }

  module _ (known had heard : Option (List ℕ)) where
    -- more is read
    pub reads : (mender : Mender) (held more : List ℕ) (rest later has hears : Option (List ℕ)) (mute : Type 0) (listens : Result T PrintFault)
        → ((left : List ℕ) → AreLeft held rest left → AreLeft more later left)
        → IsSoFar known mender held rest had has mute heard hears listens → IsSoFar known mender more later had has mute heard hears listens
    reads mender held more rest later has hears mute listens read h = record {
      written = h.written;
      said = h.said;
      got = h.got;
      tells = h.tells;
      mends = λ text is. let m = h.mends text is in (m.0, read m.0 m.1, m.2);
    }

    -- a fault comes where nothing is written any more
    pub breaks : (fault : MendFault) (refused : Type 0) (mender : Mender) (held : List ℕ) (rest has hears : Option (List ℕ)) (mute : Type 0)
        (listens : Result T PrintFault) → (fault ≡ Unwritten → ⊥)
        → IsSoFar known mender held rest had has mute heard hears listens
        → IsBroken known fault refused had has mute heard hears listens
    breaks fault refused mender held rest has hears mute listens not h = record {
      said = h.said;
      tells = h.tells;
      ends = λ text is.
          let m = h.mends text is in (
            by_fault fault not text (front-whole had has h.written (mended text) h.got (written_first text h.written h.said m.0 mender m.2)),
            said_first text h.written h.said m.0 mender m.2,
          );
    }
      where
        by_fault : (it : MendFault) → (it ≡ Unwritten → ⊥) → (text : List ℕ) → AppendsFront had has (mended text)
            → EndsBy text it refused had has
        by_fault Unread not text front = front
        by_fault Memory not text front = front
        by_fault Unwritten not text front = absurd (not refl)

    -- what is held is taken up to its last start code, and drained
    pub takes : (old new after : Mender) (held left : List ℕ) (rest has hears : Option (List ℕ)) (mute : Type 0) (listens : Result T PrintFault)
        (bytes : List ℕ) (told_now : List LeftOut) (h : IsSoFar known old held rest had has mute heard hears listens)
        → ((text written more : List ℕ) (said : List LeftOut) → IsMendedUpTo text written said (held ++ more) old
        → IsMendedUpTo text written said (left ++ more) new)
        → ((text written rest : List ℕ) (said : List LeftOut) → IsMendedUpTo text written said rest new
        → IsMendedUpTo text (written ++ bytes) (said ++ told_now) rest after)
        → (text : List ℕ) → known ≡ Some text
        → (now : List ℕ) × AreLeft left rest now × IsMendedUpTo text (h.written ++ bytes) (h.said ++ told_now) now after
    takes old new after held left rest has hears mute listens bytes told_now h taken drained text is =
        let m = h.mends text is in
        let found = left-known held rest m.0 m.1 in
        let before : IsMendedUpTo text h.written h.said (held ++ found.0) old =
        subst (λ l. IsMendedUpTo text h.written h.said l old) found.2 m.2 in (
          left ++ found.0,
          ap (prepend_known left) found.1,
          drained text h.written (left ++ found.0) h.said (taken text h.written found.0 h.said before),
        )

    -- what is held is the last
    pub ends : (old new : Mender) (held left : List ℕ) (rest has hears : Option (List ℕ)) (mute : Type 0) (listens : Result T PrintFault)
        (bytes : List ℕ) (told_now : List LeftOut) → IsAtEnd rest
        → (h : IsSoFar known old held rest had has mute heard hears listens)
        → ((text written more : List ℕ) (said : List LeftOut) → IsMendedUpTo text written said (held ++ more) old
        → IsMendedUpTo text written said (left ++ more) new)
        → ((text written : List ℕ) (said : List LeftOut) → IsMendedUpTo text written said left new → written ++ bytes ≡ mended text)
        → ((text written : List ℕ) (said : List LeftOut) → IsMendedUpTo text written said left new → said ++ told_now ≡ told text)
        → (text : List ℕ) → known ≡ Some text → (h.written ++ bytes ≡ mended text) × (h.said ++ told_now ≡ told text)
    ends old new held left None has hears mute listens bytes told_now over h taken written_is said_is text is =
        cc_absurd (h.mends text is).1
      where
        cc_absurd : prepend_known held None ≡ Some (h.mends text is).0 → (h.written ++ bytes ≡ mended text) × (h.said ++ told_now ≡ told text)
        cc_absurd e = cc
    ends old new held left (Some more) has hears mute listens bytes told_now over h taken written_is said_is text is =
        let m = h.mends text is in
        let found = left-known held (Some more) m.0 m.1 in
        let same : m.0 ≡ held ++ [] = found.2 ∙ ap (λ l. held ++ l) (same-some found.0 more (sym found.1) ∙ over) in
        let before : IsMendedUpTo text h.written h.said (held ++ []) old = subst (λ l. IsMendedUpTo text h.written h.said l old) same m.2 in
        let now : IsMendedUpTo text h.written h.said left new =
        subst (λ l. IsMendedUpTo text h.written h.said l new) (append-nil left) (taken text h.written [] h.said before) in
        (written_is text h.written h.said now, said_is text h.written h.said now)
      where
        same-some : (a b : List ℕ) → Some a ≡ Some b → a ≡ b
        same-some a b e = cc

    -- what is passed on where it can't be written
    pub breaks-passing : (fault : MendFault) (refused : Type 0) (old : Mender) {held : List ℕ} (rest has got hears : Option (List ℕ))
        (mute : Type 0) (listens : Result T PrintFault) (bytes : List ℕ)
        (h : IsSoFar known old held rest had has mute heard hears listens)
        → PassesFront fault refused has got bytes
        → ((text : List ℕ) → known ≡ Some text → IsFrontOf (h.written ++ bytes) (mended text) × IsFrontOf h.said (told text))
        → IsBroken known fault refused had got mute heard hears listens
    breaks-passing fault refused old rest has got hears mute listens bytes h passes fronts = record {
      said = h.said;
      tells = h.tells;
      ends = λ text is. (by_fault fault passes text (fronts text is).0, (fronts text is).1);
    }
      where
        first : (text : List ℕ) → IsFrontOf (h.written ++ bytes) (mended text) → AppendsFront had has (mended text)
        first text front =
            front-cut had has (h.written ++ bytes) (mended text)
            (front-wider had has h.written bytes (front-all had has h.written h.got)) front

        by_fault : (it : MendFault) → PassesFront it refused has got bytes → (text : List ℕ) → IsFrontOf (h.written ++ bytes) (mended text)
            → EndsBy text it refused had got
        by_fault Unread passes text front = absurd passes
        by_fault Memory passes text front = subst (λ now. AppendsFront had now (mended text)) (sym passes) (first text front)
        by_fault Unwritten passes text front =
            (passes.0, front-cut had got (h.written ++ bytes) (mended text) (front-after had has got h.written bytes h.got passes.1) front)

pub nothing-more : (bytes : List ℕ) → bytes ≡ bytes ++ []
nothing-more bytes = sym (append-nil bytes)

-- what isn't for the writer
pub memory-other : Memory ≡ Unwritten → ⊥
memory-other is = cc

pub unread-other : Unread ≡ Unwritten → ⊥
unread-other is = cc
