-- Pictures of keys, by whatever a decoder makes.
use Rattle.std.specs.Prelude.{◌≡◌, refl, ℕ, List, [], ◌∷◌, ◌++◌, map, Option, None, Some}
use Rattle.std.proofs.Common.{◌∙◌, sym, ap, subst, append_assoc}
use Rattle.std.proofs.lemmas.List.{append-nil}
use Rattle.h264_controls.specs.declared.request.RequestBody.{RequestBody}
use Rattle.decode_jobs.specs.Trees.Tree.{Bare, Gap, With}
use Rattle.decode_jobs.specs.Inputs.{InputValue, picture_of_frame}
use Rattle.decode_jobs.specs.Keys.{Key, bodies_of, named_by_all, tree_with}

module _ {P : Type 0} where
  -- the pictures at the entries of an input's lists, slice by slice
  abbrev pub pictures_named : InputValue P → List (Option P)
  pictures_named input = map (picture_of_frame input.references) (named_by_all input.requests)

module _ {P : Type 0} (IsOf : Key → P → Type 0) where
  -- at an entry stands a picture of its key, or neither
  abbrev pub IsOfEntry : Option P → Option Key → Type 0
  IsOfEntry None None = Unit {0}
  IsOfEntry None (Some key) = ⊥
  IsOfEntry (Some picture) None = ⊥
  IsOfEntry (Some picture) (Some key) = IsOf key picture

  -- at each entry stands a picture of its key, or neither
  abbrev pub AreOfEntries : List (Option P) → List (Option Key) → Type 0
  AreOfEntries [] [] = Unit {0}
  AreOfEntries [] (key ∷ keys) = ⊥
  AreOfEntries (picture ∷ pictures) [] = ⊥
  AreOfEntries (picture ∷ pictures) (key ∷ keys) = IsOfEntry picture key × AreOfEntries pictures keys

-- what the decoder makes of pictures of the keys at a key's entries is a picture of the key
abbrev pub IsClosed : {P : Type 0} → (InputValue P → P → Type 0) → (Key → P → Type 0) → Type 0
IsClosed {P} IsDecoded IsOf =
    (keys : List (Option Key)) (input : InputValue P) (picture : P)
    → AreOfEntries IsOf (pictures_named input) keys → IsDecoded input picture
    → IsOf (tree_with (bodies_of input.requests) keys) picture

module _ {P : Type 0} (IsDecoded : InputValue P → P → Type 0) where
  -- the input is made for a key, after the pictures at the entries in front of it: it asks for the
  -- key's bodies, and at each entry stands a picture that the decoder made of an input that is made
  -- for the entry's key
  abbrev pub IsMadeAfter : List (Option P) → Key → InputValue P → Type 0
  IsMadeAfter pictures (Bare bodies) input = (bodies_of input.requests ≡ bodies) × (pictures_named input ≡ pictures)
  IsMadeAfter pictures (Gap rest) input = IsMadeAfter (pictures ++ None ∷ []) rest input
  IsMadeAfter pictures (With first rest) input =
      (picture : P) × (made : InputValue P) × IsMadeAfter [] first made × IsDecoded made picture
      × IsMadeAfter (pictures ++ Some picture ∷ []) rest input

  -- the picture is one of the key: the decoder made it of an input that is made for the key
  abbrev pub IsPictureOf : Key → P → Type 0
  IsPictureOf key picture = (input : InputValue P) × IsMadeAfter [] key input × IsDecoded input picture

  module _ (input : InputValue P) where
    made_after : (keys : List (Option Key)) (front pictures : List (Option P)) → pictures_named input ≡ front ++ pictures
        → AreOfEntries IsPictureOf pictures keys → IsMadeAfter front (tree_with (bodies_of input.requests) keys) input
    made_after [] front [] shows are = (refl, shows ∙ append-nil front)
    made_after [] front (picture ∷ pictures) shows are = absurd are
    made_after (key ∷ keys) front [] shows are = absurd are
    made_after (None ∷ keys) front (None ∷ pictures) shows are =
        made_after keys (front ++ None ∷ []) pictures (shows ∙ sym (append_assoc front (None ∷ []) pictures)) are.1
    made_after (None ∷ keys) front (Some picture ∷ pictures) shows are = absurd are.0
    made_after (Some key ∷ keys) front (None ∷ pictures) shows are = absurd are.0
    made_after (Some key ∷ keys) front (Some picture ∷ pictures) shows are = (
      picture,
      are.0.0,
      are.0.1,
      are.0.2,
      made_after keys (front ++ Some picture ∷ []) pictures (shows ∙ sym (append_assoc front (Some picture ∷ []) pictures)) are.1,
    )

  -- so it serves each decoder
  pub IsPictureOf-closed : IsClosed IsDecoded IsPictureOf
  IsPictureOf-closed keys input picture are decoded = (input, made_after input keys [] (pictures_named input) refl are, decoded)

-- pictures at entries, and one more
pushed : {P : Type 0} (IsOf : Key → P → Type 0) (pictures : List (Option P)) (keys : List (Option Key)) (picture : Option P) (key : Option Key)
    → AreOfEntries IsOf pictures keys → IsOfEntry IsOf picture key → AreOfEntries IsOf (pictures ++ picture ∷ []) (keys ++ key ∷ [])
pushed IsOf [] [] picture key are is = (is, tt)
pushed IsOf [] (first ∷ keys) picture key are is = absurd are
pushed IsOf (first ∷ pictures) [] picture key are is = absurd are
pushed IsOf (first ∷ pictures) (other ∷ keys) picture key are is = (are.0, pushed IsOf pictures keys picture key are.1 is)

module _ {P : Type 0} {IsDecoded : InputValue P → P → Type 0} {IsOf : Key → P → Type 0} (closed : IsClosed IsDecoded IsOf) where
  -- an input that is made for a key has pictures of the keys at the key's entries
  of_entries : (front : List (Option P)) (keys : List (Option Key)) (key : Key) (input : InputValue P)
      → AreOfEntries IsOf front keys → IsMadeAfter IsDecoded front key input
      → (rest : List (Option Key)) × (key ≡ tree_with (bodies_of input.requests) rest)
      × AreOfEntries IsOf (pictures_named input) (keys ++ rest)
  of_entries front keys (Bare bodies) input are made = (
    [],
    ap Bare (sym made.0),
    subst (λ (ks : List (Option Key)). AreOfEntries IsOf (pictures_named input) ks) (sym (append-nil keys))
        (subst (λ (ps : List (Option P)). AreOfEntries IsOf ps keys) (sym made.1) are),
  )
  of_entries front keys (Gap rest) input are made =
      let more = of_entries (front ++ None ∷ []) (keys ++ None ∷ []) rest input (pushed IsOf front keys None None are tt) made in (
        None ∷ more.0,
        ap Gap more.1,
        subst (λ (ks : List (Option Key)). AreOfEntries IsOf (pictures_named input) ks) (append_assoc keys (None ∷ []) more.0) more.2,
      )
  of_entries front keys (With first rest) input are made =
      let below = of_entries [] [] first made.1 tt made.2 in
      let is : IsOf first made.0 =
      subst (λ (key : Key). IsOf key made.0) (sym below.1) (closed below.0 made.1 made.0 below.2 made.3) in
      let more =
      of_entries (front ++ Some made.0 ∷ []) (keys ++ Some first ∷ []) rest input (pushed IsOf front keys (Some made.0) (Some first) are is) made.4 in (
        Some first ∷ more.0,
        ap (With first) more.1,
        subst (λ (ks : List (Option Key)). AreOfEntries IsOf (pictures_named input) ks) (append_assoc keys (Some first ∷ []) more.0) more.2,
      )

  -- a picture of a key is what each closed relation says of it: none is stronger
  pub IsPictureOf-least : (key : Key) (picture : P) → IsPictureOf IsDecoded key picture → IsOf key picture
  IsPictureOf-least key picture is =
      let entries = of_entries [] [] key is.0 tt is.1 in
      subst (λ (k : Key). IsOf k picture) (sym entries.1) (closed entries.0 is.0 picture entries.2 is.2)
