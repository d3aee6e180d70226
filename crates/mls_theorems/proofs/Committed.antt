-- A good member stays good over the commits that it makes, and a candidate that creates a group is one.
use Rattle.std.proofs.Common.{◌≡◌, ℕ, ◌<◌, ◌^◌, Bool, false, List, [], ◌∷◌, ◌++◌, length, Option, Some, None, Ok, refl, sym, subst, arith, lit<}
use Rattle.std.specs.List.{AllByRecursion}
use Rattle.std.specs.Int.{w16, w64}
use Rattle.mls_wire.specs.Checks.{passed}
use Rattle.mls_wire.specs.Laws.{ok_is}
use Rattle.mls_wire.specs.Reading.{uint, opaque}
use Rattle.mls_leaf.specs.KeyPackage.{key_package}
use Rattle.mls_leaf.specs.Leaf.{leaf_node}
use Rattle.mls_leaf.specs.declared.key_package.KeyPackage.{KeyPackage}
use Rattle.mls_leaf.specs.declared.leaf.LeafNode.{LeafNode}
use Rattle.mls_types.specs.GroupContext.{group_context}
use Rattle.mls_leaf.specs.Node.{node}
use Rattle.mls_leaf.specs.GroupExtensions.{group_extensions}
use Rattle.mls_types.specs.Commit.{proposal_or_ref}
use Rattle.mls_types.specs.declared.commit.ProposalOrRef.{ProposalOrRef}
use Rattle.mls_suite.specs.Crypto.{Crypto}
use Rattle.mls_checks.specs.Checks.{key_package_checks}
use Rattle.mls_tree_model.specs.Arrays.{in_order}
use Rattle.mls_tree_model.specs.Good.{IsGood}
use Rattle.mls_tree_model.specs.Hashes.{tree_hash}
use Rattle.mls_tree_model.specs.Keys.{gather}
use Rattle.mls_tree_model.specs.Sets.{count, is_distinct}
use Rattle.mls_tree_model.specs.Way.{way}
use Rattle.mls_tree_model.proofs.KeptLaws.{good_single}
use Rattle.mls_tree_model.specs.Term.{Term, Leaf, width, leaf_at, leaf_of}
use Rattle.mls_tree.specs.Rules.{rules_of}
use Rattle.mls_treekem_model.specs.Keys.{AreKeysAlong, Exact, HasExact}
use Rattle.mls_treekem_model.proofs.MemberLaws.{exact_whole}
use Rattle.mls_model.specs.MemberInvariant.{NodeFits, IsGoodMember, IsGoodCandidate}
use Rattle.mls_model.specs.Candidate.{Candidate, first_context, create_group}
use Rattle.mls_model.specs.Make.{commit_call}
use Rattle.mls_model.specs.Member.{Member}
use Rattle.mls_model.specs.Messages.{require_within_limit}
use Rattle.mls_schedule.specs.Epoch.{confirmation_tag}
use Rattle.mls_schedule.specs.Transcript.{interim_hash}
use Rattle.mls_checks.proofs.LeafLaws.{package_steps}
use Rattle.mls_tree.proofs.FitLaws.{package_fit}
use Rattle.mls_theorems.proofs.Fit.{short_first, short_last, short_text}
use Rattle.mls_tree_model.proofs.LengthLaws.{length-tree_hash}
use Rattle.mls_theorems.proofs.Pends.{made_pends}
use Rattle.mls_theorems.proofs.Spelled.{package_leaf}
use Rattle.mls_wire.proofs.CheckLaws.{then_ok, bind_ok}
use Rattle.mls_theorems.proofs.UnchangedMembers.{pending_good}
use Rattle.mls_theorems.proofs.Sent.{within_is}

-- ---- a commit

pub committed_good : (c : Crypto) (m : Member) (list : List ProposalOrRef) (wants_path : Bool) (seed : List ℕ) (x : (List ℕ × Option (List ℕ)) × Member) → IsGoodMember c m → AllByRecursion proposal_or_ref.Fits list → commit_call c m list wants_path seed ≡ Ok x → IsGoodMember c x.1
unfolding commit_call
committed_good c m list wants_path seed x good fits h =
    let s = bind_ok _ _ _ h in
    subst (λ (y : (List ℕ × Option (List ℕ)) × Member). IsGoodMember c y.1) (ok_is _ x s.2)
    (pending_good c m s.0.pending good (made_pends c m list s.0 (record { good = good; fits = fits; wants_path = wants_path; seed = seed; is = s.1 })))

-- ---- a new group

first_context_fits : (c : Crypto) (group : List ℕ) (t : Term) → c.number < 2 ^ 16 → length (group_context.spell (first_context c group t)) < 2 ^ 30 → group_context.Fits (first_context c group t)
unfolding group_context first_context group_extensions
first_context_fits c group t n lt =
    let t4 : List ℕ = opaque [] ++ group_extensions.spell [] in
    let t3 : List ℕ = opaque (tree_hash 0 t) ++ t4 in
    let t2 : List ℕ = uint w64 0 ++ t3 in
    let t1 : List ℕ = opaque group ++ t2 in
    let t0 : List ℕ = uint w16 c.number ++ t1 in
    let l0 : length t0 < 2 ^ 30 = short_last (uint w16 1) t0 _ lt in
    let l1 : length t1 < 2 ^ 30 = short_last (uint w16 c.number) t1 _ l0 in
    (n, (short_text group _ (short_first (opaque group) t2 _ l1), (lit< tt, (omega (arith, length-tree_hash 0 t), (lit< tt, (tt, lit< tt))))))

suite_fits : (k : KeyPackage) → key_package.Fits k → k.cipher_suite < 2 ^ 16
unfolding key_package
suite_fits k f = f.0

alone_good : (c : Crypto) (group : List ℕ) (k : KeyPackage) → key_package_checks c k ≡ Ok passed → IsGood (rules_of c group) (Leaf (Some k.leaf_node))
unfolding is_distinct count gather
alone_good c group k h =
    let f = package_fit c group k h 0 in
    good_single (rules_of c group) k.leaf_node (lit< tt) (record { keys = refl; clients = refl; signed = f.signed; capable = f.capable; fit = f.fit })

alone_leaf : (x : LeafNode) → leaf_of (Leaf (Some x)) 0 ≡ Some x
unfolding leaf_of leaf_at width
alone_leaf x = refl

exact_alone : (c : Crypto) (x : LeafNode) (own : List ℕ) → x.encryption_key ≡ c.public own → Exact c 0 (Leaf (Some x)) 0 (Some own ∷ [])
unfolding AreKeysAlong way leaf_at
exact_alone c x own e = sym e

alone_exact : (c : Crypto) (x : LeafNode) (own : List ℕ) → x.encryption_key ≡ c.public own → HasExact c (Leaf (Some x)) (record { leaf = 0; own = own; above = [] })
alone_exact c x own e = exact_whole c (Leaf (Some x)) (record { leaf = 0; own = own; above = [] }) (exact_alone c x own e)

alone_nodes : (x : LeafNode) → leaf_node.Fits x → AllByRecursion NodeFits (in_order (Leaf (Some x)))
unfolding in_order node
alone_nodes x f = ((lit< tt, f), tt)

unfoldable first_member : Crypto → Candidate → List ℕ → List ℕ → Member
first_member c k group seed = record {
  gone = false;
  public = record { context = first_context c group (Leaf (Some k.offered.leaf_node)); tree = Leaf (Some k.offered.leaf_node); interim = interim_hash [] (confirmation_tag seed []) };
  epoch_secret = seed;
  keys = record { leaf = 0; own = k.leaf; above = [] };
  signing = k.signing;
  kept = [];
  pending = None;
}

first_good : (c : Crypto) (k : Candidate) (group seed : List ℕ) → IsGoodCandidate c k → require_within_limit (group_context.spell (first_context c group (Leaf (Some k.offered.leaf_node)))) ≡ Ok passed → IsGoodMember c (first_member c k group seed)
unfolding first_member first_context
first_good c k group seed good low =
    let short = within_is _ low in
    let n : c.number < 2 ^ 16 = subst (λ (z : ℕ). z < 2 ^ 16) (package_steps c k.offered good.checked).suite (suite_fits k.offered good.package_of) in
    record {
      tree = alone_good c group k.offered good.checked;
      hash = refl;
      suite = refl;
      own = k.offered.leaf_node;
      is_own = alone_leaf k.offered.leaf_node;
      signing = good.signing;
      keys = alone_exact c k.offered.leaf_node k.leaf good.leaf;
      kept = tt;
      pending = tt;
      context = first_context_fits c group (Leaf (Some k.offered.leaf_node)) n (omega arith);
      nodes = alone_nodes k.offered.leaf_node (package_leaf k.offered good.package_of);
    }

pub created_good : (c : Crypto) (k : Candidate) (group seed : List ℕ) (m : Member) → IsGoodCandidate c k → create_group c k group seed ≡ Ok m → IsGoodMember c m
unfolding create_group first_member
created_good c k group seed m good h =
    let s = then_ok _ _ _ h in
    subst (IsGoodMember c) (ok_is (first_member c k group seed) m s.1) (first_good c k group seed good s.0)
