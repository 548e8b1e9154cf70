-- What is stored stays where the keys that it names stay.
use Rattle.std.proofs.Common.{◌≡◌, refl, ap, sym, ◌∙◌, subst, ℕ, List, [], ◌∷◌, Option, None, Some, inl, inr}
use Rattle.std.specs.Prelude.{Contains}
use Rattle.std.specs.Option.{unwrap_or}
use Rattle.std.specs.Map.{keys_of as numbers_of}
use Rattle.std.specs.List.{zip}
use Rattle.std.specs.Option.{is_some}
use Rattle.std.proofs.lemmas.List.Elements.{All-contains}
use Rattle.unit_outcomes.specs.declared.outcome.Outcome.{Outcome}
use Rattle.decode_jobs.specs.KeyMaps.{tree_at, IsKeyMap}
use Rattle.decode_jobs.specs.Trees.Tree.{Bare}
use Rattle.decode_jobs.specs.Keys.{Key}
use Rattle.picture_keys.specs.Known.{keys_of}
use Rattle.picture_keys.specs.Numbered.{StandsFor, AllStandFor}
use Rattle.picture_store.specs.declared.job_out.JobOut.{JobOut}
use Rattle.held_pictures.specs.KeySlots.{place_at, numbers_held}
use Rattle.picture_store.specs.KeySlots.{KeySlotsValue}
use Rattle.picture_store.specs.Stored.{Trees, key_for, keys_for, jobs_for, IsRight, IsJobRight, IsSound, IsStored, KeepsStored}
use Rattle.held_pictures.proofs.Members.{here, there, nowhere, first_or_among, among_map, among_source, map_same, All-from_contains}
use Rattle.held_pictures.proofs.Held.{held_found}
use Rattle.picture_store.proofs.Viewed.{Marked, viewed}
use Rattle.decode_jobs.specs.Inputs.{InputValue}

-- the key of a number
pub key_is : (keys : Trees) (number : ℕ) (key : Key) → tree_at keys number ≡ Some key → key_for keys number ≡ key
key_is keys number key is = ap (λ (o : Option Key). unwrap_or o (Bare [])) is

-- nothing isn't something
pub none_is_not_some : {X : Type 0} (x : X) → Some x ≡ None → ⊥
none_is_not_some x e = cc

stands_here : (keys : Trees) (number : ℕ) (tree : Option Key) (trees : List (Option Key)) → StandsFor keys (Some number) tree
    → (key : Key) × (tree_at keys number ≡ Some key) × Contains (tree ∷ trees) (Some key)
stands_here keys number None trees stands = absurd stands
stands_here keys number (Some key) trees stands = (key, stands, here (Some key) trees)

-- the number of a unit has a tree, which is the key of a unit
pub stand_live : (keys : Trees) (numbers : List (Option ℕ)) (trees : List (Option Key)) → AllStandFor keys numbers trees
    → (number : ℕ) → Contains numbers (Some number)
    → (key : Key) × (tree_at keys number ≡ Some key) × Contains trees (Some key)
stand_live keys [] [] all number is = absurd (nowhere (Some number) is)
stand_live keys [] (tree ∷ trees) all number is = absurd all
stand_live keys (first ∷ numbers) [] all number is = absurd all
stand_live keys (first ∷ numbers) (tree ∷ trees) all number is =
    elim (first_or_among first (Some number) numbers is) [
      | inl same ↦ stands_here keys number tree trees (subst (λ (n : Option ℕ). StandsFor keys n tree) same all.0)
      | inr later ↦
          let rest : (key : Key) × (tree_at keys number ≡ Some key) × Contains trees (Some key) =
          stand_live keys numbers trees all.1 number later in
          (rest.0, rest.1, there tree (Some rest.0) trees rest.2)
    ]

number_here : (keys : Trees) (first : Option ℕ) (numbers : List (Option ℕ)) (key : Key) → StandsFor keys first (Some key)
    → (number : ℕ) × Contains (first ∷ numbers) (Some number) × (tree_at keys number ≡ Some key)
number_here keys None numbers key stands = absurd (none_is_not_some key stands)
number_here keys (Some number) numbers key stands = (number, here (Some number) numbers, stands)

-- the key of a unit has a number, which is a unit's
pub stand_number : (keys : Trees) (numbers : List (Option ℕ)) (trees : List (Option Key)) → AllStandFor keys numbers trees
    → (key : Key) → Contains trees (Some key)
    → (number : ℕ) × Contains numbers (Some number) × (tree_at keys number ≡ Some key)
stand_number keys [] [] all key is = absurd (nowhere (Some key) is)
stand_number keys [] (tree ∷ trees) all key is = absurd all
stand_number keys (first ∷ numbers) [] all key is = absurd all
stand_number keys (first ∷ numbers) (tree ∷ trees) all key is =
    elim (first_or_among tree (Some key) trees is) [
      | inl same ↦ number_here keys first numbers key (subst (λ (t : Option Key). StandsFor keys first t) same all.0)
      | inr later ↦
          let rest : (number : ℕ) × Contains numbers (Some number) × (tree_at keys number ≡ Some key) =
          stand_number keys numbers trees all.1 key later in
          (rest.0, there first (Some rest.0) numbers rest.1, rest.2)
    ]

stand_stays_here : (keys more : Trees) (number : Option ℕ) (tree : Option Key)
    → ((n : ℕ) (key : Key) → number ≡ Some n → tree_at keys n ≡ Some key → tree_at more n ≡ Some key)
    → StandsFor keys number tree → StandsFor more number tree
stand_stays_here keys more None tree stays stands = stands
stand_stays_here keys more (Some n) None stays stands = stands
stand_stays_here keys more (Some n) (Some key) stays stands = stays n key refl stands

-- numbers stand for their keys where these stay
pub stand_stays : (keys more : Trees) (numbers : List (Option ℕ)) (trees : List (Option Key))
    → ((number : ℕ) (key : Key) → Contains numbers (Some number) → tree_at keys number ≡ Some key → tree_at more number ≡ Some key)
    → AllStandFor keys numbers trees → AllStandFor more numbers trees
stand_stays keys more [] [] stays all = tt
stand_stays keys more [] (tree ∷ trees) stays all = absurd all
stand_stays keys more (first ∷ numbers) [] stays all = absurd all
stand_stays keys more (first ∷ numbers) (tree ∷ trees) stays all = (
  stand_stays_here keys more first tree
      (λ n key is. stays n key (subst (λ (o : Option ℕ). Contains (o ∷ numbers) (Some n)) (sym is) (here (Some n) numbers)))
      all.0,
  stand_stays keys more numbers trees (λ n key is. stays n key (there first (Some n) numbers is)) all.1,
)

-- the key of a number stays
pub key_stays : (keys more : Trees) (number : ℕ) (key : Key) → tree_at keys number ≡ Some key
    → tree_at more number ≡ Some key → key_for more number ≡ key_for keys number
key_stays keys more number key old new = key_is more number key new ∙ sym (key_is keys number key old)

module _ {P : Type 0} {IsDecoded : InputValue P → P → Type 0} {IsOf : Key → P → Type 0} (keys more : Trees) (ids : List ℕ) (outcomes : List Outcome) (numbers : List (Option ℕ)) (key_slots : KeySlotsValue P)
    (cached : List (ℕ × P)) (out : List (JobOut P)) (kept : IsSound IsDecoded IsOf keys ids outcomes numbers key_slots cached out)
    (stay : KeepsStored numbers cached out keys more) where
  right_stays : (number : ℕ) (picture : P) → IsStored numbers cached out number → IsRight IsDecoded IsOf keys number picture
      → IsRight IsDecoded IsOf more number picture
  right_stays number picture stored right = (right.0, stay number right.0 stored right.1, right.2)

  for_stays : (number : ℕ) (picture : P) → IsStored numbers cached out number → IsRight IsDecoded IsOf keys number picture
      → key_for more number ≡ key_for keys number
  for_stays number picture stored right =
      key_stays keys more number right.0 right.1 (stay number right.0 stored right.1)

  live_stays : (number : ℕ) (key : Key) → IsStored numbers cached out number → tree_at keys number ≡ Some key
      → key_for more number ≡ key_for keys number
  live_stays number key stored live = key_stays keys more number key live (stay number key stored live)

  -- a place is that of a unit's key
  place_stored : (number : ℕ) (picture : Option P) → place_at key_slots number ≡ Some picture
      → IsStored numbers cached out number
  place_stored number picture is = inl ((kept.used number).0 (ap is_some is))

  pub held_stay : keys_for more (numbers_held key_slots) ≡ keys_for keys (numbers_held key_slots)
  held_stay =
      map_same (key_for keys) (key_for more) (numbers_held key_slots)
      (λ number is.
      let found : (picture : P) × (place_at key_slots number ≡ Some (Some picture)) =
      held_found key_slots number is in
      for_stays number found.0 (place_stored number (Some found.0) found.1) (kept.right.held number found.0 found.1))

  stored_right : (number : ℕ) → Contains (numbers_of cached) number → (picture : P) × IsRight IsDecoded IsOf keys number picture
  stored_right number is =
      let found : (pair : ℕ × P) × Contains cached pair × (pair.0 ≡ number) = among_source (λ pair. pair.0) cached number is in
      (found.0.1, subst (λ n. IsRight IsDecoded IsOf keys n found.0.1) found.2 (All-contains (λ pair. IsRight IsDecoded IsOf keys pair.0 pair.1) cached found.0 kept.stored found.1))

  pub cached_stay : keys_for more (numbers_of cached) ≡ keys_for keys (numbers_of cached)
  cached_stay =
      map_same (key_for keys) (key_for more) (numbers_of cached)
      (λ number is.
      let right : (picture : P) × IsRight IsDecoded IsOf keys number picture = stored_right number is in
      for_stays number right.0 (inr (inl is)) right.1)

  job_stored : (job : JobOut P) → Contains out job → IsStored numbers cached out job.key
  job_stored job is = inr (inr (among_map (λ (j : JobOut P). j.key) out job is))

  pub out_stay : jobs_for more out ≡ jobs_for keys out
  out_stay =
      map_same (λ (job : JobOut P). record { number = job.number; key = key_for keys job.key; input = job.input })
      (λ (job : JobOut P). record { number = job.number; key = key_for more job.key; input = job.input }) out
      (λ job is. ap (λ (key : Key). record { number = job.number; key = key; input = job.input })
      (let right = All-contains (IsJobRight IsDecoded IsOf keys) out job kept.jobs is in
      live_stays job.key right.0 (job_stored job is) right.1))

  pub kept_stays : IsKeyMap more → IsSound IsDecoded IsOf more ids outcomes numbers key_slots cached out
  kept_stays one = record {
    right = record {
      one = one;
      held = λ number picture is.
          right_stays number picture (place_stored number (Some picture) is) (kept.right.held number picture is);
    };
    same = kept.same;
    stand = stand_stays keys more numbers (keys_of (zip ids outcomes)) (λ number key is. stay number key (inl is)) kept.stand;
    decodable = kept.decodable;
    used = kept.used;
    stored =
        All-from_contains cached (λ pair is. right_stays pair.0 pair.1 (inr (inl (among_map (λ (p : ℕ × P). p.0) cached pair is)))
        (All-contains (λ pair. IsRight IsDecoded IsOf keys pair.0 pair.1) cached pair kept.stored is));
    jobs =
        All-from_contains {P = IsJobRight IsDecoded IsOf more} out (λ job is.
        let right = All-contains (IsJobRight IsDecoded IsOf keys) out job kept.jobs is in
        (right.0, stay job.key right.0 (job_stored job is) right.1, right.2, right.3));
  }

  -- what contracts see stays
  pub viewed_stays : (capacity given : ℕ) (released : List P) (marked : Marked) → viewed more ids outcomes numbers key_slots cached capacity out given released marked
      ≡ viewed keys ids outcomes numbers key_slots cached capacity out given released marked
  viewed_stays capacity given released marked = rw (held_stay, cached_stay, out_stay) refl
