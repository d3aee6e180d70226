-- Texts that are larger than a message may be, and values without a spelling.
use Rattle.std.proofs.Common.{◌≡◌, ◌≢◌, ℕ, suc, ◌^◌, ◌<◌, ◌≤◌, true, List, [], ◌∷◌, ◌++◌, length, Result, Ok, Err, refl, sym, ap, ◌∙◌, inl, inr, arith, length-append}
use Rattle.std.specs.Prelude.{slice_index, nat_lt, codes}
use Rattle.std.specs.List.{list_all}
use Rattle.std.proofs.lemmas.Bool.{cases_lt, lt-ltb, le-leb}
use Rattle.mls_wire.specs.Checks.{Passed, passed, ◌>>◌}
use Rattle.mls_wire.specs.Format.{Format}
use Rattle.mls_wire.specs.Reading.{opaque}
use Rattle.mls_wire.specs.declared.WireError.TheVariants as wire
use Rattle.mls_leaf.specs.Limits.{input_limit}
use Rattle.mls_leaf.specs.Faults.{number_of, Refuses}
use Rattle.mls_leaf.specs.declared.error.LeafError.{LeafError}
use Rattle.mls_leaf.specs.declared.error.LeafError.TheVariants.{Wire, BadTag, UnsupportedCredential, UnsupportedProposal, NotRising, ExtensionNotAllowed}
use Rattle.mls_types.specs.GroupInfo.{group_info, group_info_tbs, GroupInfoTbsFits}
use Rattle.mls_types.proofs.GroupInfoLaws.{group_info-spelled}
use Rattle.mls_types.specs.declared.group_info.GroupInfo.{GroupInfo}
use Rattle.mls_suite.specs.Crypto.{Crypto}
use Rattle.mls_suite.specs.Labels.{sign_with_label}
use Rattle.mls_model.specs.Welcome.{signed_info}
use Rattle.mls_model.specs.Messages.{are_bytes, require_within_limit}
use Rattle.mls_public_group.proofs.Limits.{past_limit}
use Rattle.mls_public_group.specs.MessageLimit.{FitsIfShort, limited_text}
use Rattle.mls_welcome.specs.Ranges.{IsRanged}
use Rattle.mls_welcome.proofs.Fitting.{tbs_fit}

-- ---- the measure

bytes_all : (xs : List ℕ) → ((i : ℕ) → slice_index xs i < 256) → list_all (λ (b : ℕ). nat_lt b 256) xs ≡ true
bytes_all [] h = refl
bytes_all (x ∷ xs) h =
    let here : nat_lt x 256 ≡ true = lt-ltb x 256 (h 0) in
    let rest : list_all (λ (b : ℕ). nat_lt b 256) xs ≡ true = bytes_all xs (λ i. h (suc i)) in
    rw (here, rest) refl

pub within : (bytes : List ℕ) → length bytes ≤ input_limit → ((i : ℕ) → slice_index bytes i < 256) → require_within_limit bytes ≡ Ok passed
unfolding require_within_limit are_bytes
within bytes le h = rw (le-leb (length bytes) input_limit le, bytes_all bytes h) refl

pub limited_long : (bytes : List ℕ) → input_limit < length bytes → limited_text bytes ≡ Err 6
limited_long bytes lt = ap (λ (r : Result Passed ℕ). r >> Ok bytes) (past_limit bytes lt)

-- ---- refusals of a spelling

pub refused_is : (P : Type 0) (e : LeafError) → Refuses P e → number_of e ≢ 1 → (number_of e ≡ 6) × (P → ⊥)
refused_is P (Wire wire.OutOfMemory) r other = absurd (other refl)
refused_is P (Wire wire.Truncated) r other = absurd r
refused_is P (Wire wire.Trailing) r other = absurd r
refused_is P (Wire wire.BadLength) r other = absurd r
refused_is P (Wire wire.NotMinimal) r other = absurd r
refused_is P (Wire wire.TooLong) r other = (refl, r)
refused_is P BadTag r other = absurd r
refused_is P UnsupportedCredential r other = absurd r
refused_is P UnsupportedProposal r other = absurd r
refused_is P NotRising r other = absurd r
refused_is P ExtensionNotAllowed r other = absurd r

-- a text that would have a spelling where it is short, and has none, is long
long_by : (bytes : List ℕ) (P : Type 0) → (length bytes < 2 ^ 30 → P) → (P → ⊥) → input_limit < length bytes
long_by bytes P fits none =
    elim (cases_lt (length bytes) (2 ^ 30)) [
      | inl lt ↦ absurd (none (fits lt))
      | inr le ↦ omega arith
    ]

pub refused_long : {V : Type 0} (format : Format V) (v : V) → FitsIfShort format v → (e : LeafError) → Refuses (format.Fits v) e → number_of e ≢ 1 → limited_text (format.spell v) ≡ Err (number_of e)
refused_long format v fits e refused other =
    let is = refused_is (format.Fits v) e refused other in
    limited_long (format.spell v) (long_by (format.spell v) (format.Fits v) fits is.1) ∙ ap Err (sym is.0)

pub never_refused : {A : Type 0} (P : Type 0) (x : A) → P → (e : LeafError) → Refuses P e → number_of e ≢ 1 → Ok x ≡ Err (number_of e)
never_refused P x fits e refused other = absurd ((refused_is P e refused other).1 fits)

-- ---- a signed GroupInfo

-- is longer than what is signed of it
spelled_long : (v : GroupInfo) → input_limit < length (group_info_tbs v) → limited_text (group_info.spell v) ≡ Err 6
spelled_long v lt =
    let spelled : length (group_info.spell v) ≡ length (group_info_tbs v ++ opaque v.signature) = ap length (group_info-spelled v) in
    limited_long (group_info.spell v) (omega (arith, length-append (group_info_tbs v) (opaque v.signature)))

module _ (c : Crypto) (signing : List ℕ) (v : GroupInfo) where
  pub signed_long : input_limit < length (group_info_tbs v) → limited_text (group_info.spell (signed_info c signing v)) ≡ Err 6
  unfolding signed_info
  signed_long lt = spelled_long (record v { signature = sign_with_label c signing (codes "GroupInfoTBS") (group_info_tbs v) }) lt

  pub tbs_refused : IsRanged v → (e : LeafError) → Refuses (GroupInfoTbsFits v) e → number_of e ≢ 1 → limited_text (group_info.spell (signed_info c signing v)) ≡ Err (number_of e)
  tbs_refused ranged e refused other =
      let is = refused_is (GroupInfoTbsFits v) e refused other in
      signed_long (long_by (group_info_tbs v) (GroupInfoTbsFits v) (tbs_fit v ranged) is.1) ∙ ap Err (sym is.0)

-- the signed GroupInfo, of its parts
pub signed_is : (c : Crypto) (signing : List ℕ) (u v : GroupInfo) (s : List ℕ) → v ≡ u → s ≡ sign_with_label c signing (codes "GroupInfoTBS") (group_info_tbs v) → signed_info c signing u ≡ record v { signature = s }
unfolding signed_info
signed_is c signing u v s same signature = ap (signed_info c signing) (sym same) ∙ ap (λ (t : List ℕ). let w : GroupInfo = record v { signature = t } in w) (sym signature)

pub ranged_by : (v : GroupInfo) (s : List ℕ) → IsRanged v → IsRanged (record v { signature = s })
ranged_by v s r = record { suite = r.suite; epoch = r.epoch; allowed = r.allowed; signer = r.signer; nodes = r.nodes }
