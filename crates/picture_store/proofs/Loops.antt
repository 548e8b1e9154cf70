-- What a list holds, from its first element on.
use Rattle.std.proofs.Common.{◌≡◌, refl, sym, ap, subst, ◌∙◌, add-one, Option, Some, None, ℕ, zero, suc, ◌<◌, ◌+◌, Bool, true, false, ◌==◌, ◌||◌, List, [], ◌∷◌, ◌++◌, length, take, get_or, Contains, IsTrue, inl, inr, ◌⊎◌, arith}
use Rattle.std.specs.List.{list_any, zip}
use Rattle.std.proofs.lemmas.List.{take_more}
use Rattle.std.proofs.lemmas.List.Elements.{Contains-push_cases, Contains-append_left, Contains-push}
use Rattle.std.proofs.lemmas.Bool.Decides.{nat_tests}
use Rattle.picture_store.specs.declared.job_out.JobOut.{JobOut}
use Rattle.picture_store.specs.Stored.{numbers_out}

module _ {X : Type 0} where
  pub first_in : (y : X) (ys : List X) → Contains (y ∷ ys) y
  first_in y ys = (0, omega arith, refl)

  pub later_in : (y : X) (ys : List X) (x : X) → Contains ys x → Contains (y ∷ ys) x
  later_in y ys x (k, within, is) = (suc k, omega (arith, within), is)

  pub in_cases : (y : X) (ys : List X) (x : X) → Contains (y ∷ ys) x → (y ≡ x) ⊎ Contains ys x
  in_cases y ys x (zero, within, is) = inl is
  in_cases y ys x (suc k, within, is) = inr (k, omega (arith, within), is)

  -- what is among one element more
  pub in_more : (xs : List X) (i : ℕ) (d x : X) → i < length xs → Contains (take (i + 1) xs) x
      → Contains (take i xs) x ⊎ (get_or xs i d ≡ x)
  in_more xs i d x within there =
      Contains-push_cases (take i xs) (get_or xs i d) x (subst (λ ys. Contains ys x) (take_more xs i d within) there)

  -- what was among the elements is among one more, and so is that one
  pub more_in : (xs : List X) (i : ℕ) (d x : X) → i < length xs
      → (Contains (take i xs) x → Contains (take (i + 1) xs) x) × Contains (take (i + 1) xs) (get_or xs i d)
  more_in xs i d x within = (
    λ there. subst (λ ys. Contains ys x) (sym (take_more xs i d within))
        (Contains-append_left (take i xs) (get_or xs i d ∷ []) x there),
    subst (λ ys. Contains ys (get_or xs i d)) (sym (take_more xs i d within)) (Contains-push (take i xs) (get_or xs i d)),
  )

-- the keys of units, where the next one is added
pub added_more : (old new : List ℕ) (numbers : List (Option ℕ)) (i key : ℕ) (item : Option ℕ) → i < length numbers
    → item ≡ get_or numbers i item → item ≡ Some key → new ≡ old ++ key ∷ []
    → ((number : ℕ) → Contains (take i numbers) (Some number) → Contains old number)
    → (number : ℕ) → Contains (take (i + 1) numbers) (Some number) → Contains new number
added_more old new numbers i key item within is some pushed before number there =
    elim (in_more numbers i item (Some number) within there) [
      | inl earlier ↦ subst (λ xs. Contains xs number) (sym pushed) (Contains-append_left old (key ∷ []) number (before number earlier))
      | inr here ↦
          let e : key ≡ number = cc in
          subst (λ xs. Contains xs number) (sym pushed) (subst (λ n. Contains (old ++ key ∷ []) n) e (Contains-push old key))
    ]

-- the keys of units, where the next one has none
pub added_none : (old : List ℕ) (numbers : List (Option ℕ)) (i : ℕ) (item : Option ℕ) → i < length numbers
    → item ≡ get_or numbers i item → item ≡ None
    → ((number : ℕ) → Contains (take i numbers) (Some number) → Contains old number)
    → (number : ℕ) → Contains (take (i + 1) numbers) (Some number) → Contains old number
added_none old numbers i item within is none before number there =
    elim (in_more numbers i item (Some number) within there) [
      | inl earlier ↦ before number earlier
      | inr here ↦ cc
    ]

-- one element more of each of two lists
pub zip_more : {A B : Type 0} (xs : List A) (ys : List B) (i : ℕ) (d : A) (e : B) → i < length xs → i < length ys
    → zip (take (suc i) xs) (take (suc i) ys) ≡ zip (take i xs) (take i ys) ++ (get_or xs i d, get_or ys i e) ∷ []
zip_more [] ys i d e in_xs in_ys = absurd (omega (arith, in_xs))
zip_more (x ∷ xs) [] i d e in_xs in_ys = absurd (omega (arith, in_ys))
zip_more (x ∷ xs) (y ∷ ys) zero d e in_xs in_ys = refl
zip_more (x ∷ xs) (y ∷ ys) (suc i) d e in_xs in_ys =
    ap (λ zs. (x, y) ∷ zs) (zip_more xs ys i d e (omega (arith, in_xs)) (omega (arith, in_ys)))

-- one element more of each, as they are read
pub zip_read : {A B : Type 0} (xs : List A) (ys : List B) (i : ℕ) (x : A) (y : B) → i < length xs → i < length ys
    → x ≡ get_or xs i x → y ≡ get_or ys i y
    → zip (take (i + 1) xs) (take (i + 1) ys) ≡ zip (take i xs) (take i ys) ++ (x, y) ∷ []
zip_read xs ys i x y in_xs in_ys x_is y_is =
    ap (λ n. zip (take n xs) (take n ys)) (add-one i) ∙ (zip_more xs ys i x y in_xs in_ys
    ∙ (ap (λ a. zip (take i xs) (take i ys) ++ (a, get_or ys i y) ∷ []) (sym x_is)
    ∙ ap (λ b. zip (take i xs) (take i ys) ++ (x, b) ∷ []) (sym y_is)))

either : (a b : Bool) → IsTrue (a || b) → IsTrue a ⊎ IsTrue b
either true b h = inl refl
either false b h = inr h

same : (a b : ℕ) → IsTrue (a == b) → a ≡ b
same a b h = grind (arith, nat_tests)

-- some job has the key exactly where the key is among those of the jobs
pub key_among : {P : Type 0} (key : ℕ) (jobs : List (JobOut P)) → IsTrue (list_any (λ job. job.key == key) jobs) → Contains (numbers_out jobs) key
key_among key [] h = cc
key_among {P = P} key (job ∷ jobs) h =
    elim (either (job.key == key) (list_any (λ (other : JobOut P). other.key == key) jobs) h) [
      | inl here ↦ (0, omega arith, same job.key key here)
      | inr later ↦ later_in job.key (numbers_out jobs) key (key_among key jobs later)
    ]

here_or : (a b : Bool) → IsTrue a → IsTrue (a || b)
here_or true b h = refl
here_or false b h = cc

there_or : (a b : Bool) → IsTrue b → IsTrue (a || b)
there_or true b h = refl
there_or false b h = h

equal_test : (a b : ℕ) → a ≡ b → IsTrue (a == b)
equal_test a b h = grind (arith, nat_tests)

pub among_key : {P : Type 0} (key : ℕ) (jobs : List (JobOut P)) → Contains (numbers_out jobs) key → IsTrue (list_any (λ job. job.key == key) jobs)
among_key key [] (k, within, is) = absurd (omega (arith, within))
among_key {P = P} key (job ∷ jobs) there =
    elim (in_cases job.key (numbers_out jobs) key there) [
      | inl here ↦ here_or (job.key == key) (list_any (λ (other : JobOut P). other.key == key) jobs) (equal_test job.key key here)
      | inr later ↦ there_or (job.key == key) (list_any (λ (other : JobOut P). other.key == key) jobs) (among_key key jobs later)
    ]
