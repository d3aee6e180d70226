-- Codes of what a secret tree holds, by which proofs tell its values apart.
use Rattle.std.specs.Prelude.{◌≡◌, ℕ, List}
use Rattle.std.proofs.Common.{ap, refl}
use Rattle.std.specs.Coded.{Coded, code_by, coded×, coded_ℕ, coded_list}
use base.Stored.{Gv, gcons, gnil, gnum}
use Rattle.mls_secret_tree.specs.declared.secrets.MessageKey.{MessageKey}
use Rattle.mls_secret_tree.specs.declared.ratchet.KeptKey.{KeptKey}
use Rattle.mls_secret_tree.specs.Ratchet.{Ratcheting}
use Rattle.mls_secret_tree.specs.Held.{Held, Whole, LeafRatchet, Parted}

abbrev coded_bytes : Coded (List ℕ)
coded_bytes = coded_list coded_ℕ

abbrev pub coded_key : Coded MessageKey
coded_key =
    code_by (List ℕ × List ℕ) (coded× coded_bytes coded_bytes) (λ k. (k.key, k.nonce))
    (λ x. record { key = x.0; nonce = x.1 }) (λ _. refl)

abbrev pub coded_kept : Coded KeptKey
coded_kept =
    code_by (ℕ × MessageKey) (coded× coded_ℕ coded_key) (λ k. (k.generation, k.key))
    (λ x. record { generation = x.0; key = x.1 }) (λ _. refl)

abbrev pub coded_ratchet : Coded Ratcheting
coded_ratchet =
    code_by (ℕ × (List ℕ × List KeptKey))
    (coded× coded_ℕ (coded× coded_bytes (coded_list coded_kept)))
    (λ r. (r.next, (r.secret, r.kept))) (λ x. record { next = x.0; secret = x.1.0; kept = x.1.1 })
    (λ _. refl)

-- ---- what is held

abbrev spelled : Held → Gv
spelled (Whole secret) = gcons (gnum 0) (coded_bytes.code secret)
spelled (LeafRatchet r) = gcons (gnum 1) (coded_ratchet.code r)
spelled (Parted left right) = gcons gnil (gcons (spelled left) (spelled right))

abbrev front : Gv → Gv
front (gcons a b) = a
front gnil = gnil
front (gnum n) = gnil

abbrev back : Gv → Gv
back (gcons a b) = b
back gnil = gnil
back (gnum n) = gnil

abbrev number : Gv → ℕ
number (gcons a b) = 2
number gnil = 2
number (gnum n) = n

pub spelled_once : (h k : Held) → spelled h ≡ spelled k → h ≡ k
spelled_once (Whole s) (Whole t) e = ap Whole (coded_bytes.inj s t (ap back e))
spelled_once (Whole s) (LeafRatchet r) e = let n : 0 ≡ 1 = ap (λ (g : Gv). number (front g)) e in cc
spelled_once (Whole s) (Parted l r) e = let n : 0 ≡ 2 = ap (λ (g : Gv). number (front g)) e in cc
spelled_once (LeafRatchet r) (Whole s) e = let n : 1 ≡ 0 = ap (λ (g : Gv). number (front g)) e in cc
spelled_once (LeafRatchet r) (LeafRatchet q) e = ap LeafRatchet (coded_ratchet.inj r q (ap back e))
spelled_once (LeafRatchet r) (Parted l m) e =
    let n : 1 ≡ 2 = ap (λ (g : Gv). number (front g)) e in cc
spelled_once (Parted l r) (Whole s) e = let n : 2 ≡ 0 = ap (λ (g : Gv). number (front g)) e in cc
spelled_once (Parted l m) (LeafRatchet r) e =
    let n : 2 ≡ 1 = ap (λ (g : Gv). number (front g)) e in cc
spelled_once (Parted l r) (Parted m s) e =
    let a : l ≡ m = spelled_once l m (ap (λ (g : Gv). front (back g)) e) in
    let b : r ≡ s = spelled_once r s (ap (λ (g : Gv). back (back g)) e) in
    cc (a, b)

abbrev pub coded_held : Coded Held
coded_held = record { code = spelled; inj = spelled_once }
