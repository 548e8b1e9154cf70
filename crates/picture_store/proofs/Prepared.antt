-- The input of a unit that is due: each of its references is held, and shown.
use Rattle.std.proofs.Common.{◌≡◌, refl, sym, ap, subst, ◌∙◌, ℕ, ◌≤◌, List, length, map, Option, Some, All, arith}
use Rattle.std.proofs.lemmas.Option.{same_Some}
use Rattle.std.proofs.lemmas.List.Elements.{All-weaker}
use Rattle.h264_controls.specs.declared.request.Request.{Request}
use Rattle.h264_controls.specs.declared.request.RequestBody.{RequestBody}
use Rattle.h264_controls.specs.References.{timestamp}
use Rattle.unit_outcomes.specs.declared.outcome.Outcome.{Outcome}
use Rattle.unit_outcomes.specs.declared.outcome.Outcome.TheVariants as outcomes
use Rattle.unit_outcomes.specs.declared.outcome.Plan.{Plan}
use Rattle.decode_jobs.specs.KeyMaps.{tree_at, tree_of, IsNodeOf}
use Rattle.decode_jobs.specs.Nodes.{NodeOf}
use Rattle.decode_jobs.specs.declared.input.Reference.{Reference}
use Rattle.decode_jobs.specs.Inputs.{InputValue}
use Rattle.decode_jobs.specs.Keys.{Key, bodies_of, named_by_all}
use Rattle.picture_keys.specs.Known.{Known, key_of, key_of_outcome}
use Rattle.picture_keys.specs.Decodable.{CanDecode, OutcomeCanDecode}
use Rattle.held_pictures.specs.KeySlots.{numbers_held}
use Rattle.picture_store.specs.KeySlots.{KeySlotsValue}
use Rattle.picture_store.specs.Stores.{IsReady}
use Rattle.picture_store.specs.Stored.{Trees, AreRight, keys_for}
use Rattle.picture_store.specs.Due.{AreHeld}
use Rattle.picture_store.specs.Naming.{AreCovered, IsShown}
use Rattle.picture_store.specs.Referenced.{AreInOrder, frames_named, frames_of, times_of}
use Rattle.picture_store.specs.Inputs.{HasKnown, IsInputOf}
use Rattle.picture_store.proofs.Ready.{are_held}
use Rattle.held_pictures.proofs.Entries.{entries_many}
use Rattle.picture_store.proofs.Entries.{IsKnown, all_known, covered, of_unit}
use Rattle.picture_store.proofs.Shown.{IsOfItsUnit, all_there, shows_known, whole}
use Rattle.picture_store.proofs.Referring.{there_in_order}

module _ (keys : Trees) (key : ℕ) (node : NodeOf (List RequestBody)) (is_node : IsNodeOf keys key node) (outcome : Outcome)
    (plan : Plan) (plan_is : outcome ≡ outcomes.Plan plan) (known : Known) (has : HasKnown keys outcome key known) where
  can_decode : CanDecode known plan.requests
  can_decode = subst (OutcomeCanDecode known) plan_is has.decodes

  -- the node is that of the key
  same_key : tree_of keys node ≡ key_of known plan.requests
  same_key =
      same_Some (tree_of keys node) (key_of known plan.requests)
      (sym is_node.tree ∙ (has.tree ∙ ap (key_of_outcome known) plan_is))

  module _ (units entries : List (Option ℕ)) (units_are : units ≡ named_by_all plan.requests)
      (entries_are : entries ≡ node.entries) where
    pub enough : length units ≤ length entries
    enough =
        let many = entries_many keys known node.content (bodies_of plan.requests) node.entries (named_by_all plan.requests) same_key in
        let same : length units ≡ length entries = ap length units_are ∙ (many ∙ sym (ap length entries_are)) in
        omega arith

    module _ {P : Type 0} {IsDecoded : InputValue P → P → Type 0} {IsOf : Key → P → Type 0} (key_slots : KeySlotsValue P) (right : AreRight IsDecoded IsOf keys key_slots)
        (ready : (tree : Key) × (tree_at keys key ≡ Some tree) × IsReady (keys_for keys (numbers_held key_slots)) tree) where
      held : AreHeld key_slots node.entries
      held =
          are_held keys key_slots right node.content node.entries is_node.live
          (subst (λ tree. IsReady (keys_for keys (numbers_held key_slots)) tree)
          (same_Some ready.0 (tree_of keys node) (sym ready.1 ∙ is_node.tree)) ready.2)

      known_all : All (IsKnown known) (named_by_all plan.requests)
      known_all = all_known known plan.requests can_decode.named

      pub units_covered : AreCovered key_slots units entries
      units_covered =
          subst (λ us. AreCovered key_slots us entries) (sym units_are)
          (subst (λ es. AreCovered key_slots (named_by_all plan.requests) es) (sym entries_are)
          (covered keys key_slots right known node.content (bodies_of plan.requests) node.entries (named_by_all plan.requests) held
          same_key known_all))

      -- the references are pictures of the keys that are known of their units
      of_units : (references : List (Reference P)) → All (IsShown key_slots units entries) references
          → All (IsOfItsUnit IsOf known) references
      of_units references all =
          All-weaker (IsShown key_slots (named_by_all plan.requests) node.entries) (IsOfItsUnit IsOf known)
          (of_unit keys key_slots right known node.content (bodies_of plan.requests) node.entries (named_by_all plan.requests) held
          same_key known_all) references
          (subst (λ us. All (IsShown key_slots us node.entries) references) units_are
          (subst (λ es. All (IsShown key_slots units es) references) entries_are all))

      pub is_input : (references : List (Reference P)) (requests : List Request) (input : InputValue P)
          → All (IsShown key_slots units entries) references
          → times_of references ≡ map timestamp (frames_named (frames_of plan.requests) units) → requests ≡ plan.requests
          → input ≡ record { requests = requests; references = references } → IsInputOf IsOf known outcome input
      is_input references requests input all times requests_are input_is =
          let whole_input : InputValue P = record { requests = plan.requests; references = references } in
          let same : input ≡ whole_input =
          input_is ∙ ap (λ rs. record { requests = rs; references = references }) requests_are in
          let order : AreInOrder whole_input =
          times ∙ ap (λ (us : List (Option ℕ)). map timestamp (frames_named (frames_of plan.requests) us)) units_are in
          let are = all_there references (named_by_all plan.requests) (there_in_order plan.requests references order) in
          subst (λ o. IsInputOf IsOf known o input) (sym plan_is)
          (subst (IsInputOf IsOf known (outcomes.Plan plan)) (sym same) (
            refl,
            shows_known IsOf known references (of_units references all) (named_by_all plan.requests) known_all are,
            whole known references plan.requests can_decode are,
            order,
          ))
