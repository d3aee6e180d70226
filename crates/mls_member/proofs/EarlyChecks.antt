-- What comes before anything grows is the verdict's refusal, and `process` answers it.
use Rattle.std.proofs.Common.{◌≡◌, ℕ, Bool, true, false, not, List, Option, Some, None, Result, Ok, Err, refl, sym, ap, subst}
use Rattle.std.specs.Prelude.{IsErrAnd}
use Rattle.mls_wire.specs.Checks.{passed, require, require_some, ◌>>◌}
use Rattle.mls_wire.specs.Reading.{◌>>=◌}
use Rattle.mls_leaf.specs.declared.leaf.LeafNode.{LeafNode}
use Rattle.mls_types.specs.declared.message.MlsMessage.{MlsMessage}
use Rattle.mls_types.specs.declared.public_message.PublicMessage.{PublicMessage}
use Rattle.mls_view.specs.declared.public_message.PublicMessageView.{PublicMessageView}
use Rattle.mls_view.specs.Shown.{ShowsPublic}
use Rattle.std.specs.Borrow.{Bor}
use Rattle.mls_suite.specs.Crypto.{Crypto}
use Rattle.mls_model.specs.declared.effect.Effect.{Effect}
use Rattle.mls_model.specs.Member.{Member, Pending}
use Rattle.mls_model.specs.Messages.{decode_message, public_in}
use Rattle.mls_model.specs.Verdict.{own_pending, bytes_verdict, framing_checks, message_verdict, pending_or_received, verdict}
use Rattle.mls_member.specs.declared.error.Refusal.{Refusal}
use Rattle.mls_member.specs.declared.error.Refusal.TheVariants.{Gone}
use Rattle.mls_member.specs.EarlyChecks.{checks_unless_own, early_checks}
use Rattle.mls_member.specs.Faults.{number_of}
use Rattle.mls_member.specs.Process.{message_outer_checks, sender_of}
use Rattle.mls_member.specs.Received.{LendsLeaf, RefusesOthers}
use Rattle.mls_member.proofs.ContentLaws.{IsPublic}
use Rattle.mls_member.proofs.TwoParts.{fails_first}

abbrev refused : {A : Type 0} → ℕ → Result A ℕ
refused n = Err n

-- ---- the leaf of a sender

pub public_lends : (m : Member) (bytes : List ℕ) (view : PublicMessageView) (result : Result (Bor LeafNode) Refusal) → IsPublic bytes view
    → ((shown : PublicMessage) → ShowsPublic view shown → LendsLeaf (sender_of m shown) result) → LendsLeaf (message_outer_checks m bytes) result
unfolding message_outer_checks decode_message
public_lends m bytes view result p h = rw p.is_read (h p.shown p.shows)

-- ---- the verdict

module _ (c : Crypto) (m : Member) (bytes : List ℕ) (n : ℕ) where
  of_framing : (v : PublicMessage) → framing_checks c m v bytes ≡ Err n → message_verdict c m v bytes ≡ Err n
  of_framing v e = rw e refl

  of_public : (o : Option PublicMessage) → (require_some 41 o >>= λ v. sender_of m v) ≡ Err n → (require_some 41 o >>= λ v. message_verdict c m v bytes) ≡ Err n
  of_public None e = let same : 41 ≡ n = cc in ap (λ (k : ℕ). refused {A = Effect × Member} k) same
  of_public (Some v) e = of_framing v (fails_first c m v bytes n e)

  of_message : (r : Result MlsMessage ℕ) → (r >>= λ whole. require_some 41 (public_in whole) >>= λ v. sender_of m v) ≡ Err n
      → (r >>= λ whole. require_some 41 (public_in whole) >>= λ v. message_verdict c m v bytes) ≡ Err n
  of_message (Err k) e = let same : k ≡ n = cc in ap (λ (i : ℕ). refused {A = Effect × Member} i) same
  of_message (Ok whole) e = of_public (public_in whole) e

  outer_refused : message_outer_checks m bytes ≡ Err n → bytes_verdict c m bytes ≡ Err n
  unfolding message_outer_checks bytes_verdict
  outer_refused e = of_message (decode_message bytes) e

  without_leaf : (r : Result LeafNode ℕ) → (r >>= λ leaf. Ok passed) ≡ Err n → r ≡ Err n
  without_leaf (Ok leaf) e = absurd cc
  without_leaf (Err k) e = let same : k ≡ n = cc in ap (λ (i : ℕ). refused {A = LeafNode} i) same

  by_pending : (gone : Bool) (o : Option Pending) → (require 40 (not gone) >> checks_unless_own m bytes o) ≡ Err n → (require 40 (not gone) >> pending_or_received c m bytes o) ≡ Err n
  by_pending true o e = let same : 40 ≡ n = cc in ap (λ (k : ℕ). refused {A = Effect × Member} k) same
  by_pending false (Some p) e = absurd cc
  by_pending false None e = outer_refused (without_leaf (message_outer_checks m bytes) e)

  pub early_refused : early_checks m bytes ≡ Err n → verdict c m bytes ≡ Err n
  unfolding early_checks verdict
  early_refused e = by_pending m.gone (own_pending m.pending bytes) e

-- ---- what is refused early

pub others_early : (m : Member) (bytes : List ℕ) (n : ℕ) → m.gone ≡ false → own_pending m.pending bytes ≡ None → message_outer_checks m bytes ≡ Err n → early_checks m bytes ≡ Err n
unfolding early_checks
others_early m bytes n here own e = let there : not m.gone ≡ true = ap not here in rw (there, own, e) refl

-- what `process` refuses early
pub process_early : {A : Type 0} (m : Member) (bytes : List ℕ) (result : Result A Refusal) → (m.gone ≡ true → result ≡ Err Gone) → RefusesOthers m bytes result
    → (n : ℕ) → early_checks m bytes ≡ Err n → IsErrAnd result (λ e. number_of e ≡ n)
unfolding early_checks
process_early {A} m bytes result gone others n h = by_gone m.gone refl h
  where
    P : Result A Refusal → Type 0
    P r = IsErrAnd r (λ e. number_of e ≡ n)

    without_leaf : (r : Result LeafNode ℕ) → (r >>= λ leaf. Ok passed) ≡ Err n → r ≡ Err n
    without_leaf (Ok leaf) e = absurd cc
    without_leaf (Err k) e = let same : k ≡ n = cc in ap (λ (i : ℕ). refused {A = LeafNode} i) same

    by_own : m.gone ≡ false → (o : Option Pending) → own_pending m.pending bytes ≡ o → checks_unless_own m bytes o ≡ Err n → P result
    by_own here (Some p) own e = absurd cc
    by_own here None own e = others here own n (without_leaf (message_outer_checks m bytes) e)

    by_gone : (b : Bool) → m.gone ≡ b → (require 40 (not b) >> checks_unless_own m bytes (own_pending m.pending bytes)) ≡ Err n → P result
    by_gone true is e = let same : 40 ≡ n = cc in subst P (sym (gone is)) same
    by_gone false is e = by_own is (own_pending m.pending bytes) refl e
