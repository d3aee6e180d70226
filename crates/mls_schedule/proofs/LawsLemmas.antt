-- The laws of epochs.
use Rattle.std.proofs.Common.{◌≡◌, ℕ, List, Bool, true, false, bytes_eq, refl, sym, ap, ◌∙◌, ◌⊎◌, inl, inr}
use Rattle.std.specs.Prelude.{codes}
use Rattle.std.proofs.lemmas.Bool.Decides.{not_from_Decides}
use Rattle.std.proofs.lemmas.Slice.Eq.{bytes_eq-Decides}
use Rattle.mls_kdf.specs.Kdf.{hmac, derive_secret}
use Rattle.mls_schedule.specs.Epoch.{epoch_secret, next_epoch_secret, nine_secrets, confirmation_key, confirmation_tag}
use Rattle.mls_schedule.specs.Twins.{Twins}
use Rattle.mls_schedule.specs.Laws.{AreOne, EqualOrTwins, TwinsShareTags, JoinerReachesNext}

-- ---- twins

-- the tag, written out
pub tag_is : (epoch confirmed : List ℕ) → confirmation_tag epoch confirmed ≡ hmac (derive_secret epoch (codes "confirm")) confirmed
unfolding confirmation_tag confirmation_key
tag_is epoch confirmed = refl

pub one_or_twins : EqualOrTwins
one_or_twins first second confirmed tags = by (bytes_eq first second) refl
  where
    by : (t : Bool) → bytes_eq first second ≡ t → AreOne first second ⊎ Twins first second confirmed
    by true e =
        let same : first ≡ second = (bytes_eq-Decides first second).0 e in
        inl (record { epoch = same; nine = ap nine_secrets same })
    by false e = inr (record {
      differ = not_from_Decides (bytes_eq first second) (bytes_eq-Decides first second) e;
      one_tag = sym (tag_is first confirmed) ∙ tags ∙ tag_is second confirmed;
    })

pub share_tags : TwinsShareTags
share_tags first second confirmed twins = (twins.differ, tag_is first confirmed ∙ twins.one_tag ∙ sym (tag_is second confirmed))

pub reaches_next : JoinerReachesNext
reaches_next init commit_secret context joiner confirmed tags = one_or_twins (epoch_secret joiner context) (next_epoch_secret init commit_secret context) confirmed tags
