-- The first epoch of a group.
use Rattle.std.proofs.Common.{◌≡◌, ℕ, ◌<◌, ◌≤◌, ◌^◌, nat_lt, Bool, true, false, cond, List, [], ◌∷◌, ◌++◌, length, Some, None, Result, Ok, Err, refl, sym, ap, subst, ◌∙◌, arith, length-append}
use Rattle.std.specs.Prelude.{IfSome}
use Rattle.std.specs.Int.{w16}
use Rattle.mls_wire.specs.Reading.{uint, header, opaque}
use Rattle.mls_leaf.specs.GroupExtensions.{group_extensions}
use Rattle.mls_leaf.specs.Leaf.{leaf_node}
use Rattle.mls_leaf.specs.Limits.{input_limit}
use Rattle.mls_leaf.specs.declared.leaf.LeafNode.{LeafNode}
use Rattle.mls_types.specs.GroupContext.{group_context}
use Rattle.mls_types.specs.declared.group_context.GroupContext.{GroupContext}
use Rattle.mls_suite.specs.Crypto.{Crypto}
use Rattle.mls_tree_model.proofs.LengthLaws.{length-tree_hash}
use Rattle.mls_tree_model.specs.Term.{Term, Leaf, width, leaf_at, leaf_of}
use Rattle.mls_public_group.specs.Short.{IsBelow, HasLeavesBelow, IsShortContext}
use Rattle.mls_wire.specs.Checks.{Passed, passed, ◌>>◌}
use Rattle.mls_wire.specs.Reading.{◌>>=◌}
use Rattle.mls_schedule.specs.Epoch.{confirmation_tag}
use Rattle.mls_schedule.specs.Transcript.{interim_hash}
use Rattle.mls_model.specs.Candidate.{Candidate, first_context, create_group}
use Rattle.mls_treekem_model.specs.Keys.{Keys, PrivateKeys, all_keys}
use Rattle.mls_model.specs.Member.{Member, KeptProposal}
use Rattle.mls_model.specs.PublicState.{PublicState}
use Rattle.mls_member.specs.FirstEpoch.{first_public}
use Rattle.mls_model.specs.Messages.{require_within_limit}
use Rattle.mls_public_group.proofs.Lengths.{first_within, last_within}
use Rattle.mls_public_group.proofs.Limits.{past_limit}

-- no extensions are short
none_below : IsBelow (2 ^ 27) group_extensions []
unfolding group_extensions header
none_below = record { fits = (tt, omega arith); below = omega arith }

-- its context is short where its identifier is within the limit
pub first_short : (c : Crypto) (group : List ℕ) (t : Term) → c.number < 2 ^ 16 → length group ≤ input_limit → IsShortContext (first_context c group t)
unfolding first_context
first_short c group t n le = record { suite = n; epoch = omega arith; group_id = omega (arith, le); tree_hash = omega (arith, length-tree_hash 0 t); confirmed = omega arith; extensions = none_below }

-- and larger than a message may be where its identifier alone is
first_spelled : (c : Crypto) (group : List ℕ) (t : Term) → (rest : List ℕ) × (group_context.spell (first_context c group t) ≡ uint w16 1 ++ (uint w16 c.number ++ (opaque group ++ rest)))
unfolding first_context group_context
first_spelled c group t = (_, refl)

pub first_long : (c : Crypto) (group : List ℕ) (t : Term) → input_limit < length group → require_within_limit (group_context.spell (first_context c group t)) ≡ Err 6
first_long c group t lt =
    let s = first_spelled c group t in
    past_limit (group_context.spell (first_context c group t))
    (rw s.1 (omega (arith, lt, last_within (uint w16 1) (uint w16 c.number ++ (opaque group ++ s.0)), last_within (uint w16 c.number) (opaque group ++ s.0), first_within (opaque group) s.0, last_within (header (length group)) group)))

-- its tree has one leaf
if_there : (b : Bool) (P : LeafNode → Type 0) (x : LeafNode) → P x → IfSome (cond b (Some x) None) P
if_there true P x p = p
if_there false P x p = tt

pub leaf_below : (n : ℕ) (t : Term) (x : LeafNode) → t ≡ Leaf (Some x) → IsBelow n leaf_node x → HasLeavesBelow n t
unfolding leaf_of leaf_at width
leaf_below n t x e b = subst (HasLeavesBelow n) (sym e) (λ i. if_there (nat_lt i 1) (λ v. IsBelow n leaf_node v) x b)

-- ---- the creation

after : (r : Result Passed ℕ) (p : PublicState) (m : PublicState → Member) → (r >> Ok (m p)) ≡ ((r >> Ok p) >>= λ q. Ok (m q))
after (Ok x) p m = refl
after (Err n) p m = refl

pub public_long : (c : Crypto) (leaf : LeafNode) (group epoch : List ℕ) → input_limit < length group → first_public c leaf group epoch ≡ Err 6
unfolding first_public
public_long c leaf group epoch lt = rw (first_long c group (Leaf (Some leaf)) lt) refl

pub public_refused : (c : Crypto) (leaf : LeafNode) (group epoch : List ℕ) (x : GroupContext) (bytes : List ℕ) (n : ℕ) → x ≡ first_context c group (Leaf (Some leaf)) → bytes ≡ group_context.spell x → require_within_limit bytes ≡ Err n → first_public c leaf group epoch ≡ Err n
unfolding first_public
public_refused c leaf group epoch x bytes n is spelled refused = rw (sym is, sym spelled, refused) refl

pub public_made : (c : Crypto) (leaf : LeafNode) (group epoch : List ℕ) (x : GroupContext) (t : Term) (bytes : List ℕ) → x ≡ first_context c group (Leaf (Some leaf)) → t ≡ Leaf (Some leaf) → bytes ≡ group_context.spell x → require_within_limit bytes ≡ Ok passed →
    first_public c leaf group epoch ≡ Ok (record { context = x; tree = t; interim = interim_hash [] (confirmation_tag epoch []) })
unfolding first_public
public_made c leaf group epoch x t bytes is tree spelled within = rw (sym is, sym tree, sym spelled, within) refl

-- a creation is the public state of epoch 0 with the candidate's keys
pub created_is : (c : Crypto) (k : Candidate) (group seed : List ℕ) →
    create_group c k group seed ≡ (first_public c k.offered.leaf_node group seed >>= λ q. Ok (record { gone = false; public = q; epoch_secret = seed; keys = record { leaf = 0; own = k.leaf; above = [] }; signing = k.signing; kept = []; pending = None }))
unfolding create_group first_public
created_is c k group seed =
    after (require_within_limit (group_context.spell (first_context c group (Leaf (Some k.offered.leaf_node)))))
    (record { context = first_context c group (Leaf (Some k.offered.leaf_node)); tree = Leaf (Some k.offered.leaf_node); interim = interim_hash [] (confirmation_tag seed []) })
    (λ q. record { gone = false; public = q; epoch_secret = seed; keys = record { leaf = 0; own = k.leaf; above = [] }; signing = k.signing; kept = []; pending = None })

-- a member with its leaf's key alone
keys_alone : (own sk : List ℕ) (above : Keys) → above ++ (Some own ∷ []) ≡ Some sk ∷ [] → (above ≡ []) × (own ≡ sk)
keys_alone own sk [] h = (refl, cc)
keys_alone own sk (x ∷ xs) h = absurd (let l = ap length h in omega (arith, length-append xs (Some own ∷ [])))

pub created_made : (c : Crypto) (k : Candidate) (group seed : List ℕ) (leaf : LeafNode) (epoch own signing : List ℕ) (kept : List KeptProposal) (q : PublicState) (p : PrivateKeys) → leaf ≡ k.offered.leaf_node → epoch ≡ seed → own ≡ k.leaf → signing ≡ k.signing → kept ≡ [] →
    first_public c leaf group epoch ≡ Ok q → p.leaf ≡ 0 → all_keys p ≡ Some own ∷ [] →
    create_group c k group seed ≡ Ok (record { gone = false; public = q; epoch_secret = epoch; keys = p; signing = signing; kept = kept; pending = None })
created_made c k group seed leaf epoch own signing kept q p leaf_is epoch_is own_is signing_is kept_is made at keys =
    let alone = keys_alone p.own own p.above keys in
    let made' : first_public c k.offered.leaf_node group seed ≡ Ok q = rw (sym leaf_is, sym epoch_is) made in
    created_is c k group seed ∙ rw (made', epoch_is, signing_is, kept_is, sym own_is, sym alone.1, sym alone.0, sym at) refl

pub created_refused : (c : Crypto) (k : Candidate) (group seed : List ℕ) (leaf : LeafNode) (epoch : List ℕ) (n : ℕ) → leaf ≡ k.offered.leaf_node → epoch ≡ seed → first_public c leaf group epoch ≡ Err n → create_group c k group seed ≡ Err n
created_refused c k group seed leaf epoch n leaf_is epoch_is refused =
    let refused' : first_public c k.offered.leaf_node group seed ≡ Err n = rw (sym leaf_is, sym epoch_is) refused in
    created_is c k group seed ∙ rw refused' refl
