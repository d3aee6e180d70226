-- What those whom a commit adds are sent is what the definition sends them.
use Rattle.std.proofs.Common.{◌≡◌, ℕ, Bool, true, false, List, [], ◌∷◌, map, Option, Some, None, Ok, IsSome, refl, sym, ap, subst, arith}
use Rattle.std.specs.Prelude.{if◌then◌else◌, ◌||◌}
use Rattle.std.specs.List.{AllByRecursion, zip}
use Rattle.std.specs.Option.{option_copied}
use Rattle.mls_wire.specs.Checks.{require_some}
use Rattle.mls_wire.proofs.CheckLaws.{bind_ok}
use Rattle.mls_leaf.specs.declared.extension.Extension.{Extension}
use Rattle.mls_leaf.specs.declared.leaf.LeafNode.{LeafNode}
use Rattle.mls_leaf.specs.declared.key_package.KeyPackage.{KeyPackage}
use Rattle.mls_types.specs.declared.update_path.UpdatePath.{UpdatePath}
use Rattle.mls_suite.specs.Crypto.{Crypto}
use Rattle.mls_tree_model.specs.Laws.{IsIn}
use Rattle.mls_tree_model.proofs.TakenLaws.{taken_at, some_at}
use Rattle.mls_tree_model.specs.Term.{Term, leaf_of}
use Rattle.mls_tree_model.specs.Way.{path_length}
use Rattle.mls_tree.specs.Tree.{member_at}
use Rattle.mls_treekem_model.specs.Seeds.{path_seed}
use Rattle.mls_treekem.specs.Secrets.{AreOfChain, IsSentOf}
use Rattle.mls_treekem.specs.declared.secrets.PathSecrets.{PathSecrets}
use Rattle.mls_model.specs.PublicState.{Used}
use Rattle.mls_model.specs.Proposals.{adds, is_path_required}
use Rattle.mls_model.specs.Commit.{Edits, apply_proposals}
use Rattle.mls_model.specs.Member.{Member}
use Rattle.mls_model.specs.Make.{MadePath, new_path, no_path, path_secret_for, carried_after, path_if_needed, path_with}
use Rattle.mls_model.specs.Welcome.{secrets_with}
use Rattle.mls_theorems.proofs.Joining.{edits_add}
use Rattle.mls_theorems.proofs.Staying.{edits_follow_committer}
use Rattle.mls_theorems.specs.CommitLaws.{IsJoiner}
use Rattle.mls_welcome.specs.Joiners.{package_and_leaf_of, AreSecretsOf}
use Rattle.mls_welcome.specs.SentSecrets.{AreSentTo}
use Rattle.mls_welcome.specs.declared.welcome_message.Joiner.{Joiner}
use Rattle.mls_make.specs.OwnPath.{HaveSecrets}

-- ---- the committer has a leaf, where it made a path

is_taken : (t : Term) (i : ℕ) → IsSome (leaf_of t i) → IsIn 0 t i
is_taken t i some = let x = some_at (leaf_of t i) some in let s = taken_at t i x.0 x.1 in record { low = omega arith; high = omega arith }

some_given : (o : Option LeafNode) (x : LeafNode) → require_some 22 o ≡ Ok x → IsSome o
some_given None x h = cc
some_given (Some y) x h = refl

member_is : (t : Term) (i : ℕ) (x : LeafNode) → member_at t i ≡ Ok x → IsSome (leaf_of t i)
member_is t i x h = some_given (leaf_of t i) x h

with_path_own : (c : Crypto) (m : Member) (carried : List Extension) (e : Edits) (seed : List ℕ) (made : MadePath) → new_path c m carried e seed ≡ Ok made → IsSome (leaf_of m.public.tree m.keys.leaf)
unfolding new_path
with_path_own c m carried e seed made h = let s = bind_ok _ _ _ h in member_is m.public.tree m.keys.leaf s.0 s.1

either_own : (b : Bool) (c : Crypto) (m : Member) (carried : List Extension) (e : Edits) (seed : List ℕ) (made : MadePath) (path : UpdatePath) → made.path ≡ Some path → (if b then new_path c m carried e seed else Ok (no_path m e)) ≡ Ok made → IsSome (leaf_of m.public.tree m.keys.leaf)
unfolding no_path
either_own true c m carried e seed made path is h = with_path_own c m carried e seed made h
either_own false c m carried e seed made path is h = cc

pub own_taken : (c : Crypto) (m : Member) (e : Edits) (used : List Used) (wants : Bool) (seed : List ℕ) (made : MadePath) (path : UpdatePath) → made.path ≡ Some path → path_if_needed c m e used wants seed ≡ Ok made → IsSome (leaf_of m.public.tree m.keys.leaf)
unfolding path_with
own_taken c m e used wants seed made path is h = either_own (wants || is_path_required used) c m (carried_after m used) e seed made path is h

-- ---- each is sent what it is due

one_sent : (c : Crypto) (m : Member) (e : Edits) (seed : List ℕ) (path : UpdatePath) (s : PathSecrets) (k : KeyPackage × ℕ) (o : Option (List ℕ)) → AreOfChain c (path_seed seed) (path_length 0 e.tree m.keys.leaf) s →
    IsIn 0 e.tree m.keys.leaf → IsJoiner m.keys.leaf e k → IsSentOf e.tree m.keys.leaf k.1 s.secrets.items o → o ≡ path_secret_for (Some path) m e seed k.1
one_sent c m e seed path s k o chain own joiner sent =
    let there = taken_at e.tree k.1 k.0.leaf_node joiner.leaf in
    sent (path_seed seed) (path_length 0 e.tree m.keys.leaf) chain.secrets (omega arith)
    (record { first = own; second = record { low = omega arith; high = omega arith }; apart = joiner.other }) (rw there.leaf refl)

all_sent : (c : Crypto) (m : Member) (e : Edits) (seed joiner : List ℕ) (path : UpdatePath) (s : PathSecrets) → AreOfChain c (path_seed seed) (path_length 0 e.tree m.keys.leaf) s → IsIn 0 e.tree m.keys.leaf →
    (js : List Joiner) → AllByRecursion (IsJoiner m.keys.leaf e) (map package_and_leaf_of js) → AreSentTo e.tree m.keys.leaf (Some s) js → AreSecretsOf joiner (λ j. secrets_with joiner (path_secret_for (Some path) m e seed j)) js
all_sent c m e seed joiner path s chain own [] joins sent = tt
all_sent c m e seed joiner path s chain own (j ∷ js) joins sent =
    (ap (secrets_with joiner) (sym (one_sent c m e seed path s (package_and_leaf_of j) (option_copied j.path_secret) chain own joins.0 sent.0)), all_sent c m e seed joiner path s chain own js joins.1 sent.1)

none_sent : (m : Member) (e : Edits) (seed joiner : List ℕ) (js : List Joiner) → AreSentTo e.tree m.keys.leaf None js → AreSecretsOf joiner (λ j. secrets_with joiner (path_secret_for None m e seed j)) js
none_sent m e seed joiner [] sent = tt
none_sent m e seed joiner (j ∷ js) sent = (ap (secrets_with joiner) (sym sent.0), none_sent m e seed joiner js sent.1)

own_stays : (c : Crypto) (m : Member) (used : List Used) (e : Edits) → apply_proposals c m.public m.keys.leaf used ≡ Ok e → IsSome (leaf_of m.public.tree m.keys.leaf) → IsIn 0 e.tree m.keys.leaf
own_stays c m used e is own = is_taken e.tree m.keys.leaf (subst IsSome (sym (edits_follow_committer c m.public m.keys.leaf used e is own).leaf) own)

with_secrets : (c : Crypto) (m : Member) (used : List Used) (e : Edits) (wants : Bool) (seed joiner : List ℕ) (made : MadePath) (path : Option UpdatePath) (secrets : Option PathSecrets) (js : List Joiner) → made.path ≡ path →
    apply_proposals c m.public m.keys.leaf used ≡ Ok e → path_if_needed c m e used wants seed ≡ Ok made → HaveSecrets c m.keys.leaf e seed path secrets → map package_and_leaf_of js ≡ zip (adds used) e.added → AreSentTo e.tree m.keys.leaf secrets js →
    AreSecretsOf joiner (λ j. secrets_with joiner (path_secret_for path m e seed j)) js
with_secrets c m used e wants seed joiner made None None js is edits path_is have places sent = none_sent m e seed joiner js sent
with_secrets c m used e wants seed joiner made None (Some s) js is edits path_is have places sent = absurd have
with_secrets c m used e wants seed joiner made (Some path) None js is edits path_is have places sent = absurd have
with_secrets c m used e wants seed joiner made (Some path) (Some s) js is edits path_is have places sent =
    let own = own_taken c m e used wants seed made path is path_is in
    all_sent c m e seed joiner path s have (own_stays c m used e edits own) js (subst (AllByRecursion (IsJoiner m.keys.leaf e)) (sym places) (edits_add c m.public m.keys.leaf used e own edits)) sent

pub secrets_sent : (c : Crypto) (m : Member) (used : List Used) (e : Edits) (wants : Bool) (seed joiner : List ℕ) (made : MadePath) (secrets : Option PathSecrets) (js : List Joiner) →
    apply_proposals c m.public m.keys.leaf used ≡ Ok e → path_if_needed c m e used wants seed ≡ Ok made → HaveSecrets c m.keys.leaf e seed made.path secrets → map package_and_leaf_of js ≡ zip (adds used) e.added → AreSentTo e.tree m.keys.leaf secrets js →
    AreSecretsOf joiner (λ j. secrets_with joiner (path_secret_for made.path m e seed j)) js
secrets_sent c m used e wants seed joiner made secrets js edits path_is have places sent = with_secrets c m used e wants seed joiner made made.path secrets js refl edits path_is have places sent
