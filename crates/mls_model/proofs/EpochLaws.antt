-- A member that follows a commit is active, in the epoch that it answers.
use Rattle.std.proofs.Common.{◌≡◌, ℕ, Bool, true, false, List, refl, sym, ap, subst, ◌∙◌, ◌⊎◌, inl, inr, true≢false}
use Rattle.std.proofs.lemmas.Bool.{not-true}
use Rattle.mls_types.specs.declared.signed.SignedBody.{SignedBody}
use Rattle.mls_types.specs.declared.signed.SignedBody.TheVariants as body_of
use Rattle.mls_types.specs.declared.public_message.PublicMessage.{PublicMessage}
use Rattle.mls_suite.specs.Crypto.{Crypto}
use Rattle.mls_treekem_model.specs.Keys.{PrivateKeys}
use Rattle.mls_model.specs.declared.effect.Effect.{Effect}
use Rattle.mls_model.specs.declared.effect.Effect.TheVariants.{Advanced}
use Rattle.mls_model.specs.Commit.{Change, public_with}
use Rattle.mls_model.specs.VerdictFindings.{WasRemoved, HasFollowed, DidPending, reached_epoch}
use Rattle.mls_model.proofs.Found.{ContentDid, DidOther}
use Rattle.mls_model.specs.Member.{Member, with_epoch, with_keys}
use Rattle.mls_model.specs.PublicState.{PublicState}
use Rattle.mls_model.proofs.Receipts.{did_receive, did_take}
use Rattle.mls_model.specs.EpochLaws.{IsIn, AdvancedIsActive}

-- where a verdict answers that a member advanced to an epoch, it is active there
abbrev Arrives : Effect × Member → Type 0
Arrives x = (epoch : ℕ) → x.0 ≡ Advanced epoch → IsIn x.1 epoch

abbrev is_advanced : Effect → Bool
is_advanced (Advanced epoch) = true
is_advanced other = false

arrives_nowhere : (x : Effect × Member) → is_advanced x.0 ≡ false → Arrives x
arrives_nowhere x h epoch e = absurd (true≢false (sym (ap is_advanced e) ∙ h))

abbrev to_epoch : ℕ → Effect
to_epoch n = Advanced n

one_epoch : (i j : ℕ) → to_epoch i ≡ Advanced j → i ≡ j
one_epoch i j e = cc

arrives : (m : Member) (public : PublicState) (secret : List ℕ) (keys : PrivateKeys) → m.gone ≡ false → Arrives (Advanced public.context.epoch, with_epoch m public secret keys)
unfolding with_epoch
arrives m public secret keys active epoch e = record { active = active; context = one_epoch public.context.epoch epoch e }

arrives_changed : (m : Member) (change : Change) (tag secret : List ℕ) (keys : PrivateKeys) → m.gone ≡ false → Arrives (Advanced change.context.epoch, with_epoch m (public_with change tag) secret keys)
unfolding public_with
arrives_changed m change tag secret keys active = arrives m (public_with change tag) secret keys active

arrives_by : (c : Crypto) (m : Member) (bytes : List ℕ) (v : PublicMessage) (b : SignedBody) (x : Effect × Member) → m.gone ≡ false → ContentDid c m v.content bytes b x → Arrives x
arrives_by c m bytes v (body_of.Application text) x active d = absurd d
arrives_by c m bytes v (body_of.Proposal said) x active (inl d) = subst Arrives d.is (arrives_nowhere _ refl)
arrives_by c m bytes v (body_of.Proposal said) x active (inr d) = subst Arrives d.is (arrives_nowhere _ refl)
arrives_by c m bytes v (body_of.Commit commit tag) x active d = by_case d.did
  where
    by_case : WasRemoved m d.used x ⊎ HasFollowed c m v.content commit tag d.used d.change x → Arrives x
    by_case (inl r) = subst Arrives r.is (arrives_nowhere _ refl)
    by_case (inr f) = subst Arrives f.is (arrives_changed m d.change tag (reached_epoch m d.change f.climb) (with_keys m.keys f.climb.keys) active)

pub advanced_active : AdvancedIsActive
advanced_active c m after bytes epoch h = by_case (did_take c m bytes (Advanced epoch, after) h).did epoch refl
  where
    active : m.gone ≡ false
    active = not-true m.gone (did_take c m bytes (Advanced epoch, after) h).active

    by_case : DidPending m bytes (Advanced epoch, after) ⊎ DidOther c m bytes (Advanced epoch, after) → Arrives (Advanced epoch, after)
    by_case (inl d) = subst Arrives d.is (arrives m d.pending.public d.pending.epoch_secret d.pending.keys active)
    by_case (inr d) = let r = did_receive c m bytes (Advanced epoch, after) d.is in arrives_by c m bytes r.said r.said.content.body (Advanced epoch, after) active r.did
