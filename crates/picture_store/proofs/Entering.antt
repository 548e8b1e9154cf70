-- The keys at the entries of a unit's key, as its node has them.
use Rattle.std.proofs.Common.{◌≡◌, refl, sym, ap, subst, ◌∙◌, ℕ, List, [], ◌∷◌, Option, None, Some, IsSome, Contains, slice_get, inl, inr}
use Rattle.std.proofs.lemmas.Option.{same_Some}
use Rattle.h264_controls.specs.declared.request.RequestBody.{RequestBody}
use Rattle.decode_jobs.specs.KeyMaps.{tree_at, tree_from, tree_of, entered, AreLive, IsKeyMap, IsNodeOf}
use Rattle.decode_jobs.specs.Nodes.{NodeOf}
use Rattle.decode_jobs.specs.Keys.{Key}
use Rattle.held_pictures.proofs.Members.{here, there}
use Rattle.picture_store.specs.Schedules.{IsEntryOf, RefersTo}
use Rattle.picture_store.specs.Stored.{Trees}

module _ (keys : Trees) (one : IsKeyMap keys) (entry : ℕ) (first : Key) (first_is : tree_at keys entry ≡ Some first)
    (bodies : List RequestBody) where
  by_first : (number : ℕ) (entries : List (Option ℕ)) (tree : Option Key) → tree_at keys number ≡ tree → IsSome tree
      → (IsEntryOf first (tree_from keys bodies entries) → Contains entries (Some entry))
      → IsEntryOf first (entered tree (tree_from keys bodies entries)) → Contains (Some number ∷ entries) (Some entry)
  by_first number entries None tree_is live later is = absurd cc
  by_first number entries (Some own) tree_is live later (inl same) =
      subst (λ n. Contains (Some n ∷ entries) (Some entry))
      (one.trees entry number first first_is (tree_is ∙ ap Some same)) (here (Some entry) entries)
  by_first number entries (Some own) tree_is live later (inr rest) =
      there (Some number) (Some entry) entries (later rest)

  -- a key that stands at an entry of a node's tree has its number at an entry of the node
  pub entry_among : (entries : List (Option ℕ)) → AreLive keys entries → IsEntryOf first (tree_from keys bodies entries)
      → Contains entries (Some entry)
  entry_among [] live is = absurd is
  entry_among (None ∷ entries) live is = there None (Some entry) entries (entry_among entries live.1 is)
  entry_among (Some number ∷ entries) live is =
      by_first number entries (tree_at keys number) refl live.0 (entry_among entries live.1) is

-- that to which the key of a unit refers stands among its entries
pub refers_among : (keys : Trees) → IsKeyMap keys → (numbers : List (Option ℕ)) (at entry number : ℕ) (node : NodeOf (List RequestBody))
    → slice_get numbers at ≡ Some (Some number) → IsNodeOf keys number node → RefersTo keys numbers at entry
    → Contains node.entries (Some entry)
refers_among keys one numbers at entry number node is is_node refers =
    let same_number : refers.number ≡ number =
    same_Some refers.number number (same_Some (Some refers.number) (Some number) (sym refers.stands ∙ is)) in
    let same_tree : refers.tree ≡ tree_of keys node =
    same_Some refers.tree (tree_of keys node)
    (sym refers.tree_is ∙ ap (tree_at keys) same_number ∙ is_node.tree) in
    entry_among keys one entry refers.first refers.first_is node.content node.entries is_node.live
    (subst (IsEntryOf refers.first) same_tree refers.among)
