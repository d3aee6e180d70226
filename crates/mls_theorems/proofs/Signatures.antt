-- Signature keys stay.
use Rattle.std.proofs.Common.{◌≡◌, ℕ, ◌==◌, Bool, true, false, ◌||◌, List, [], ◌∷◌, map, Some, Ok, refl, sym, ◌∙◌, ap, subst, eqb-true, inl, inr}
use Rattle.std.specs.List.{AllByRecursion}
use Rattle.std.proofs.lemmas.Bool.{cases_eq, true≢false}
use Rattle.mls_wire.specs.Checks.{passed}
use Rattle.mls_leaf.specs.declared.leaf.LeafNode.{LeafNode}
use Rattle.mls_leaf.specs.declared.proposal.Proposal.{Proposal}
use Rattle.mls_leaf.specs.declared.proposal.Proposal.TheVariants as proposal
use Rattle.mls_suite.specs.Crypto.{Crypto}
use Rattle.mls_checks.specs.Checks.{replacement_checks}
use Rattle.mls_checks.specs.declared.checks.LeafUse.TheVariants as leaf_node_source
use Rattle.mls_tree_model.specs.Sets.{has}
use Rattle.mls_tree_model.specs.Term.{leaf_of}
use Rattle.mls_tree.specs.Tree.{member_at}
use Rattle.mls_model.specs.PublicState.{PublicState, Used}
use Rattle.mls_model.specs.Proposals.{update_checks, proposal_checks, update_in, updates, updated_leaves, removed_leaves}
use Rattle.mls_model.specs.Commit.{Edits, apply_proposals}
use Rattle.mls_theorems.specs.CommitLaws.{AllHavePassed, IsRenewed, KeepsSignature, SignaturesNext}
use Rattle.mls_wire.proofs.CheckLaws.{bind_ok, then_ok, given_ok}
use Rattle.mls_theorems.proofs.Inversion.{edited_steps, body_steps}
use Rattle.mls_theorems.proofs.Staying.{kept_by, edits_renew}
use Rattle.mls_checks.proofs.LeafLaws.{replaced_steps}
use Rattle.mls_theorems.proofs.Sound.{all_kept, HasPassedChecks, all_passed}
use Rattle.mls_theorems.proofs.NextStates.{leaves_next}

-- an update that passed its checks has the signature key of the leaf that it replaces
record HasIdentity (p : PublicState) (u : ℕ × LeafNode) : Type 0 where
  old : LeafNode
  is_old : leaf_of p.tree u.0 ≡ Some old
  signature : u.1.signature_key ≡ old.signature_key

module _ (c : Crypto) (p : PublicState) where
  update_identity : (i : ℕ) (x : LeafNode) → update_checks c p i x ≡ Ok passed → HasIdentity p (i, x)
  unfolding update_checks
  update_identity i x h =
      let old = bind_ok (member_at p.tree i) _ passed h in
      let replaced = then_ok (replacement_checks c x old.0 leaf_node_source.Update p.context.group_id i) _ passed old.2 in
      let r = replaced_steps c x old.0 leaf_node_source.Update p.context.group_id i replaced.0 in
      record { old = old.0; is_old = given_ok 22 (leaf_of p.tree i) old.0 old.1; signature = r.signature }

  identity_at : (u : Used) (q : Proposal) (y : ℕ × LeafNode) → update_in u q ≡ Some y → proposal_checks c p u.sender q ≡ Ok passed → HasIdentity p y
  unfolding proposal_checks
  identity_at u (proposal.Add offered) y is h = absurd cc
  identity_at u (proposal.Update leaf) y is h = let same : Path (ℕ × LeafNode) (u.sender, leaf) y = cc in subst (HasIdentity p) same (update_identity u.sender leaf h)
  identity_at u (proposal.Remove leaf) y is h = absurd cc
  identity_at u (proposal.GroupContextExtensions list) y is h = absurd cc

  identities : (used : List Used) → AllByRecursion (HasPassedChecks c p) used → AllByRecursion (HasIdentity p) (updates used)
  unfolding updates
  identities used h = all_kept (λ (u : Used). update_in u u.proposal) (HasPassedChecks c p) (HasIdentity p) (λ u y is passes. identity_at u u.proposal y is passes) used h

-- where a leaf is updated, its update
the_update : (P Q : ℕ × LeafNode → Type 0) (us : List (ℕ × LeafNode)) (j : ℕ) → has (map (λ (u : ℕ × LeafNode). u.0) us) j ≡ true → AllByRecursion P us → AllByRecursion Q us → (x : LeafNode) × P (j, x) × Q (j, x)
unfolding has
the_update P Q [] j h ps qs = absurd (true≢false (sym h))
the_update P Q (u ∷ us) j h ps qs = by_test (u.0 == j) refl h (λ e. the_update P Q us j e ps.1 qs.1)
  where
    by_test : (b : Bool) → (u.0 == j) ≡ b → (b || has (map (λ (v : ℕ × LeafNode). v.0) us) j) ≡ true → (has (map (λ (v : ℕ × LeafNode). v.0) us) j ≡ true → (x : LeafNode) × P (j, x) × Q (j, x)) → (x : LeafNode) × P (j, x) × Q (j, x)
    by_test true e k rest =
        let is : u.0 ≡ j = eqb-true u.0 j e in
        (u.1, subst (λ i. P (i, u.1)) is ps.0, subst (λ i. Q (i, u.1)) is qs.0)
    by_test false e k rest = rest k

is_updated : (used : List Used) (j : ℕ) → has (updated_leaves used) j ≡ true → has (map (λ (u : ℕ × LeafNode). u.0) (updates used)) j ≡ true
unfolding updated_leaves
is_updated used j h = h

-- after the edits
edits_sign : (c : Crypto) (p : PublicState) (i : ℕ) (used : List Used) (e : Edits) (j : ℕ) (x : LeafNode) → AllHavePassed c p used → apply_proposals c p i used ≡ Ok e → leaf_of p.tree j ≡ Some x → has (removed_leaves used) j ≡ false → KeepsSignature j x e.tree
edits_sign c p i used e j x before h at r = by_test (has (updated_leaves used) j) refl
  where
    renewed : has (updated_leaves used) j ≡ true → KeepsSignature j x e.tree
    renewed u =
        let s = edited_steps c p i used e h in
        let found = the_update (IsRenewed p.tree e) (HasIdentity p) (updates used) j (is_updated used j u) (edits_renew c p i used e h) (identities c p used (all_passed c p used s.full before)) in
        let old : found.2.old ≡ x = (let a = found.2.is_old in cc) in
        record { after = found.0; is = found.1.leaf; signature = found.2.signature ∙ ap (λ (y : LeafNode). y.signature_key) old }

    by_test : (b : Bool) → has (updated_leaves used) j ≡ b → KeepsSignature j x e.tree
    by_test true u = renewed u
    by_test false u =
        let kept = kept_by c p i used e j x (edited_steps c p i used e h) at u r in
        record { after = x; is = kept.leaf ∙ at; signature = refl }

pub signatures_next : SignaturesNext
signatures_next c p i used commit said signature change j x before some h at r =
    let b = body_steps c p i used commit said signature change h in
    let l = leaves_next c p i used commit said signature change some h in
    elim (cases_eq j i) [
      | inl is ↦
          let old : l.before ≡ x = (let a = l.was in let d = ap (leaf_of p.tree) is in cc) in
          record { after = l.after; is = ap (leaf_of change.tree) is ∙ l.is; signature = l.signature ∙ ap (λ (y : LeafNode). y.signature_key) old }
      | inr ne ↦
          let s = edits_sign c p i used change.edits j x before b.edits at r in
          record { after = s.after; is = l.others j ne ∙ s.is; signature = s.signature }
    ]
