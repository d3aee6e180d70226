-- GroupInfos with more nodes than a tree has are refused as their trees are.
use Rattle.std.proofs.Common.{◌≡◌, ℕ, ◌==◌, Bool, true, false, List, Option, Some, None, Result, Ok, Err, refl, ap, subst, ◌∙◌}
use Rattle.mls_wire.specs.Checks.{require, ◌>>◌}
use Rattle.mls_wire.specs.Reading.{◌>>=◌}
use Rattle.mls_wire.specs.Whole.{whole}
use Rattle.mls_leaf.specs.Faults.{Spells, number_of}
use Rattle.mls_leaf.specs.Limits.{input_limit}
use Rattle.mls_leaf.specs.declared.error.LeafError.{LeafError}
use Rattle.mls_leaf.specs.declared.node.Node.{Node}
use Rattle.mls_leaf.proofs.WholeLaws.{spells_same}
use Rattle.mls_types.specs.GroupContext.{group_context}
use Rattle.mls_types.specs.GroupInfo.{group_info, ratchet_tree}
use Rattle.mls_types.specs.declared.group_context.GroupContext.{GroupContext}
use Rattle.mls_types.specs.declared.group_info.GroupInfo.{GroupInfo}
use Rattle.mls_types.specs.declared.welcome.GroupSecrets.{GroupSecrets}
use Rattle.mls_view.specs.Views.{LendsAll, LendsWhole}
use Rattle.mls_suite.specs.Crypto.{Crypto}
use Rattle.mls_tree_model.specs.Arrays.{from_nodes}
use Rattle.mls_tree.specs.Tree.{max_leaves}
use Rattle.mls_tree_view.specs.SentTree.{ShowsGroupInfo, ShowsTree}
use Rattle.mls_tree_view.specs.declared.group_info.GroupInfoView.{GroupInfoView}
use Rattle.mls_model.specs.Candidate.{Candidate}
use Rattle.mls_model.specs.Join.{joined_tree, join_verdict, member_of}
use Rattle.mls_model.specs.Messages.{are_bytes}
use Rattle.mls_model.specs.OpenedWelcome.{Opened, opened_welcome, or_fault, open_group_info, plain_info}
use Rattle.mls_join.specs.FewNodes.{tree_in}

-- ---- what a view of a GroupInfo tells

-- the nodes that are shown
record AreShown (s : Option (List (Option Node))) (part : List ℕ) : Type 0 where
  cells : List (Option Node)
  is : s ≡ Some cells
  spells : Spells ratchet_tree cells part

are_shown : (o : Option (List ℕ)) (s : Option (List (Option Node))) (part : List ℕ) → ShowsTree o s → o ≡ Some part → AreShown s part
are_shown None s part shows e = absurd cc
are_shown (Some p) None part shows e = absurd shows
are_shown (Some p) (Some cells) part shows e =
    let same : p ≡ part = cc in
    record { cells = cells; is = refl; spells = subst (λ (l : List ℕ). Spells ratchet_tree cells l) same shows }

module _ (bytes : List ℕ) (view : GroupInfoView) (found : LendsAll group_info input_limit ShowsGroupInfo bytes view) where
  module _ (c : Crypto) (context : GroupContext) (spells : Spells group_context context view.group_context) where
    test_is : (b : Bool) → (context.cipher_suite == c.number) ≡ b → (found.value.group_context.cipher_suite == c.number) ≡ b
    test_is b e = ap (λ (g : GroupContext). g.cipher_suite == c.number) (spells_same group_context found.value.group_context context view.group_context found.shows.group_context spells) ∙ e

    -- one of another suite
    pub other_suite : (context.cipher_suite == c.number) ≡ false → tree_in c bytes ≡ Err 71
    other_suite e = rw (found.is_read, test_is false e) refl

    -- one whose nodes are refused
    pub long_tree : (part : List ℕ) (n : ℕ) → (context.cipher_suite == c.number) ≡ true → view.ratchet_tree ≡ Some part
        → ((cells : List (Option Node)) → Spells ratchet_tree cells part → from_nodes max_leaves cells ≡ Err n) → tree_in c bytes ≡ Err n
    unfolding joined_tree
    long_tree part n e is refused =
        let shown = are_shown view.ratchet_tree found.value.ratchet_tree part found.shows.ratchet_tree is in
        rw (found.is_read, test_is true e, shown.is, refused shown.cells shown.spells) refl

no_info : (c : Crypto) (bytes : List ℕ) (n : ℕ) → whole group_info input_limit bytes ≡ Err n → tree_in c bytes ≡ Err 75
no_info c bytes n e = rw e refl

-- bytes of which there is no view
pub no_view : (c : Crypto) (bytes : List ℕ) (r : Result GroupInfoView LeafError) → ((view : GroupInfoView) → r ≡ Ok view → ⊥) → LendsWhole group_info input_limit ShowsGroupInfo bytes r → tree_in c bytes ≡ Err 75
no_view c bytes (Ok view) none lends = absurd (none view refl)
no_view c bytes (Err e) none lends = no_info c bytes (number_of e) lends

-- ---- what is refused of an opened Welcome

abbrev opened_with : GroupSecrets → List ℕ → GroupInfo → Opened
opened_with secrets plain info = record { joiner = secrets.joiner_secret; path_secret = secrets.path_secret; bytes = plain; info = info }

if_suited : (test : Bool) (c : Crypto) (secrets : GroupSecrets) (plain : List ℕ) (info : GroupInfo)
    → ((require 71 test >> Ok (opened_with secrets plain info)) >>= λ o. joined_tree c o.info) ≡ (require 71 test >> joined_tree c info)
if_suited true c secrets plain info = refl
if_suited false c secrets plain info = refl

if_read : (r : Result GroupInfo ℕ) (c : Crypto) (secrets : GroupSecrets) (plain : List ℕ)
    → ((r >>= λ info. require 71 (info.group_context.cipher_suite == c.number) >> Ok (opened_with secrets plain info)) >>= λ o. joined_tree c o.info)
    ≡ (r >>= λ info. require 71 (info.group_context.cipher_suite == c.number) >> joined_tree c info)
if_read (Ok info) c secrets plain = if_suited (info.group_context.cipher_suite == c.number) c secrets plain info
if_read (Err n) c secrets plain = refl

-- an opened GroupInfo that is refused, with its tree
pub info_refused : (c : Crypto) (secrets : GroupSecrets) (sealed plain : List ℕ) (n : ℕ) → plain_info c secrets.joiner_secret sealed ≡ Ok plain → are_bytes plain ≡ true
    → tree_in c plain ≡ Err n → (open_group_info c secrets sealed >>= λ o. joined_tree c o.info) ≡ Err n
unfolding open_group_info
info_refused c secrets sealed plain n opened bytes refused = rw (opened, bytes) (if_read (or_fault 75 (whole group_info input_limit plain)) c secrets plain ∙ refused)

member_refused : (c : Crypto) (k : Candidate) (r : Result Opened ℕ) (n : ℕ) → (r >>= λ o. joined_tree c o.info) ≡ Err n → (r >>= λ o. member_of c k o) ≡ Err n
unfolding member_of
member_refused c k (Ok o) n e = rw e refl
member_refused c k (Err m) n e = cc

-- a Welcome that is refused, with the tree in it
pub verdict_refused : (c : Crypto) (k : Candidate) (bytes : List ℕ) (n : ℕ) → (opened_welcome c k bytes >>= λ o. joined_tree c o.info) ≡ Err n → join_verdict c k bytes ≡ Err n
unfolding join_verdict
verdict_refused c k bytes n e = member_refused c k (opened_welcome c k bytes) n e
