-- Laws of one ratchet: which keys it gives, and what it holds afterwards.
use Rattle.std.proofs.Common.{◌≡◌, ℕ, suc, ◌+◌, ◌-◌, ◌<◌, ◌≤◌, true, false, not, eqb, ltb, ◌||◌, ◌⊎◌, inl, inr, List, ◌++◌, Option, Some, None, Result, Ok, Err, is_some, refl, sym, ap, ◌∙◌, arith}
use Rattle.std.proofs.lemmas.Bool.{cond-true, cond-false, eq-eqb, ne_eqb, lt-ltb, le-ltb, cases_lt, cases_eq}
use Rattle.mls_secret_tree.specs.declared.secrets.MessageKey.{MessageKey}
use Rattle.mls_secret_tree.specs.declared.ratchet.KeptKey.{KeptKey}
use Rattle.mls_secret_tree.specs.Secrets.{application_secret, message_key, next_ratchet_secret, ratchet_secret}
use Rattle.mls_secret_tree.specs.Ratchet.{window, Ratcheting, first_ratchet, find_key, other_keys, near_keys, passed_keys, passed_secret, take_kept, take_new, take_ahead, take_key}
use Rattle.mls_secret_tree.specs.Holding.{ratchet_holds, IsRatchetOf}
use Rattle.mls_secret_tree.proofs.KeptKeys.{find_if, find_not, or_else, find_append, passed_before, passed_after, passed_within, passed_last}

-- ---- what a ratchet holds

pub holds_next : (r : Ratcheting) (g : ℕ) → r.next ≤ g → ratchet_holds r g ≡ true
unfolding ratchet_holds
holds_next r g h = ap (λ b. not b || is_some (find_key g r.kept)) (le-ltb g r.next h)

pub holds_before : (r : Ratcheting) (g : ℕ) → g < r.next → ratchet_holds r g ≡ is_some (find_key g r.kept)
unfolding ratchet_holds
holds_before r g h = ap (λ b. not b || is_some (find_key g r.kept)) (lt-ltb g r.next h)

some_of : (o : Option MessageKey) → is_some o ≡ true → (m : MessageKey) × (o ≡ Some m)
some_of None e = absurd cc
some_of (Some m) e = (m, refl)

none_of : (o : Option MessageKey) → is_some o ≡ false → o ≡ None
none_of None e = refl
none_of (Some m) e = absurd cc

-- ---- what a key was taken from

-- a kept one
pub record TookKept (r : Ratcheting) (g : ℕ) (t : MessageKey × Ratcheting) : Type 0 where
  pub before : g < r.next
  pub found : find_key g r.kept ≡ Some t.0
  pub next : t.1.next ≡ r.next
  pub secret : t.1.secret ≡ r.secret
  pub kept : t.1.kept ≡ other_keys g r.kept

-- or one made by going ahead
pub record TookAhead (r : Ratcheting) (g : ℕ) (t : MessageKey × Ratcheting) : Type 0 where
  pub from : r.next ≤ g
  pub within : g ≤ r.next + window
  pub key : t.0 ≡ message_key (passed_secret r.secret r.next (g - r.next)) g
  pub next : t.1.next ≡ suc g
  pub secret : t.1.secret ≡ next_ratchet_secret (passed_secret r.secret r.next (g - r.next)) g
  pub kept : t.1.kept ≡ near_keys g r.kept ++ passed_keys r.secret r.next (g - r.next)

same_value : {A : Type 0} (x y : A) → (let ok : A → Result A ℕ = λ z. Ok z in ok x ≡ ok y) → x ≡ y
same_value x y e = cc

took_kept : (r : Ratcheting) (g : ℕ) (o : Option MessageKey) (t : MessageKey × Ratcheting) → g < r.next → find_key g r.kept ≡ o → take_kept r g o ≡ Ok t → TookKept r g t
unfolding take_kept
took_kept r g None t h f e = absurd cc
took_kept r g (Some key) t h f e =
    let same = same_value _ _ e in
    record {
      before = h;
      found = f ∙ ap (λ (x : MessageKey × Ratcheting). Some x.0) same;
      next = sym (ap (λ (x : MessageKey × Ratcheting). x.1.next) same);
      secret = sym (ap (λ (x : MessageKey × Ratcheting). x.1.secret) same);
      kept = sym (ap (λ (x : MessageKey × Ratcheting). x.1.kept) same);
    }

took_ahead : (r : Ratcheting) (g : ℕ) (t : MessageKey × Ratcheting) → r.next ≤ g → g ≤ r.next + window → take_ahead r g ≡ t → TookAhead r g t
unfolding take_ahead take_new
took_ahead r g t h w e = record {
  from = h;
  within = w;
  key = sym (ap (λ (x : MessageKey × Ratcheting). x.0) e);
  next = sym (ap (λ (x : MessageKey × Ratcheting). x.1.next) e);
  secret = sym (ap (λ (x : MessageKey × Ratcheting). x.1.secret) e);
  kept = sym (ap (λ (x : MessageKey × Ratcheting). x.1.kept) e);
}

-- the three cases of a call
key_before : (r : Ratcheting) (g : ℕ) → g < r.next → take_key r g ≡ take_kept r g (find_key g r.kept)
unfolding take_key
key_before r g h = cond-true _ _ _ (lt-ltb g r.next h)

key_too_far : (r : Ratcheting) (g : ℕ) → r.next + window < g → take_key r g ≡ Err 115
unfolding take_key
key_too_far r g h = cond-false _ _ _ (le-ltb g r.next (omega arith)) ∙ cond-true _ _ _ (lt-ltb (r.next + window) g h)

key_ahead : (r : Ratcheting) (g : ℕ) → r.next ≤ g → g ≤ r.next + window → take_key r g ≡ Ok (take_ahead r g)
unfolding take_key
key_ahead r g h w = cond-false _ _ _ (le-ltb g r.next h) ∙ cond-false _ _ _ (le-ltb (r.next + window) g w)

pub took : (r : Ratcheting) (g : ℕ) (t : MessageKey × Ratcheting) → take_key r g ≡ Ok t → TookKept r g t ⊎ TookAhead r g t
took r g t e = elim (cases_lt g r.next) [
  | inl h ↦ inl (took_kept r g (find_key g r.kept) t h refl (sym (key_before r g h) ∙ e))
  | inr h ↦ elim (cases_lt (r.next + window) g) [
    | inl far ↦ (let wrong = sym (key_too_far r g far) ∙ e in absurd cc)
    | inr near ↦ (let same = sym (key_ahead r g h near) ∙ e in inr (took_ahead r g t h near cc))
  ]
]

-- ---- kept keys afterwards

find_other : (g k : ℕ) (ks : List KeptKey) → (k ≡ g → ⊥) → find_key k (other_keys g ks) ≡ find_key k ks
unfolding other_keys
find_other g k ks ne = find_if (λ n. not (eqb n g)) k ks (ap not (ne_eqb k g ne))

find_used : (g : ℕ) (ks : List KeptKey) → find_key g (other_keys g ks) ≡ None
unfolding other_keys
find_used g ks = find_not (λ n. not (eqb n g)) g ks (ap not (eq-eqb g g refl))

find_near : (g k : ℕ) (ks : List KeptKey) → g ≤ k + window → find_key k (near_keys g ks) ≡ find_key k ks
unfolding near_keys
find_near g k ks h = find_if (λ n. not (ltb (n + window) g)) k ks (ap not (le-ltb (k + window) g h))

find_far : (g k : ℕ) (ks : List KeptKey) → k + window < g → find_key k (near_keys g ks) ≡ None
unfolding near_keys
find_far g k ks h = find_not (λ n. not (ltb (n + window) g)) k ks (ap not (lt-ltb (k + window) g h))

near_only : (g k : ℕ) (ks : List KeptKey) (m : MessageKey) → find_key k (near_keys g ks) ≡ Some m → find_key k ks ≡ Some m
near_only g k ks m e = elim (cases_lt (k + window) g) [
  | inl far ↦ (let wrong = sym (find_far g k ks far) ∙ e in absurd cc)
  | inr near ↦ sym (find_near g k ks near) ∙ e
]

or_none : (o : Option MessageKey) → or_else o None ≡ o
or_none None = refl
or_none (Some m) = refl

or_some : (o : Option MessageKey) (m : MessageKey) → is_some (or_else o (Some m)) ≡ true
or_some None m = refl
or_some (Some n) m = refl

or_cases : (o p : Option MessageKey) (m : MessageKey) → or_else o p ≡ Some m → (o ≡ Some m) ⊎ (p ≡ Some m)
or_cases None p m e = inr e
or_cases (Some n) p m e = inl e

-- ---- the laws

pub first_is : (s : List ℕ) → IsRatchetOf (application_secret s) (first_ratchet s)
unfolding first_ratchet ratchet_secret find_key
first_is s = record { secret = refl; kept = λ g m e. absurd cc }

pub record IsTaken (first : List ℕ) (g : ℕ) (t : MessageKey × Ratcheting) : Type 0 where
  pub key : t.0 ≡ message_key (ratchet_secret first g) g
  pub behind : IsRatchetOf first t.1

whole_way : (r : ℕ) (g : ℕ) → r ≤ g → r + (g - r) ≡ g
whole_way r g h = omega arith

other_only : (g k : ℕ) (ks : List KeptKey) (m : MessageKey) → find_key k (other_keys g ks) ≡ Some m → find_key k ks ≡ Some m
other_only g k ks m e = elim (cases_eq k g) [
  | inl same ↦ (let wrong = sym (ap (λ n. find_key n (other_keys g ks)) same ∙ find_used g ks) ∙ e in absurd cc)
  | inr ne ↦ sym (find_other g k ks ne) ∙ e
]

taken_kept : (first : List ℕ) (r : Ratcheting) (g : ℕ) (t : MessageKey × Ratcheting) → IsRatchetOf first r → TookKept r g t → IsTaken first g t
taken_kept first r g t is took = record {
  key = (is.kept g t.0 took.found).1;
  behind = record {
    secret = took.secret ∙ is.secret ∙ ap (ratchet_secret first) (sym took.next);
    kept = λ k m e.
        let old = is.kept k m (other_only g k r.kept m (ap (find_key k) (sym took.kept) ∙ e)) in
        let n = took.next in
        let low : k < r.next = old.0 in
        (omega arith, old.1);
  };
}

passed_here : (first : List ℕ) (r : Ratcheting) (g : ℕ) → IsRatchetOf first r → r.next ≤ g → passed_secret r.secret r.next (g - r.next) ≡ ratchet_secret first g
passed_here first r g is h = passed_last first r.secret r.next (g - r.next) is.secret ∙ ap (ratchet_secret first) (whole_way r.next g h)

-- a key that is kept after going ahead
kept_ahead : (first : List ℕ) (r : Ratcheting) (g k : ℕ) (m : MessageKey) → IsRatchetOf first r → r.next ≤ g
    → (find_key k (near_keys g r.kept) ≡ Some m) ⊎ (find_key k (passed_keys r.secret r.next (g - r.next)) ≡ Some m)
    → (k < suc g) × (m ≡ message_key (ratchet_secret first k) k)
kept_ahead first r g k m is h (inl e) =
    let old = is.kept k m (near_only g k r.kept m e) in
    let low : k < r.next = old.0 in
    (omega arith, old.1)
kept_ahead first r g k m is h (inr e) = elim (cases_lt k r.next) [
  | inl low ↦ (let wrong = sym (passed_before r.secret r.next (g - r.next) k low) ∙ e in absurd cc)
  | inr from ↦ elim (cases_lt k g) [
    | inl below ↦ (let found = sym (passed_within first r.secret r.next (g - r.next) k is.secret from (omega arith)) ∙ e in (omega arith, cc))
    | inr past ↦ (let wrong = sym (passed_after r.secret r.next (g - r.next) k (omega arith)) ∙ e in absurd cc)
  ]
]

find_ahead : (r : Ratcheting) (g k : ℕ) (t : MessageKey × Ratcheting) → TookAhead r g t
    → find_key k t.1.kept ≡ or_else (find_key k (near_keys g r.kept)) (find_key k (passed_keys r.secret r.next (g - r.next)))
find_ahead r g k t took = ap (find_key k) took.kept ∙ find_append k (near_keys g r.kept) (passed_keys r.secret r.next (g - r.next))

taken_ahead : (first : List ℕ) (r : Ratcheting) (g : ℕ) (t : MessageKey × Ratcheting) → IsRatchetOf first r → TookAhead r g t → IsTaken first g t
unfolding ratchet_secret
taken_ahead first r g t is took =
    let here = passed_here first r g is took.from in
    record {
      key = took.key ∙ ap (λ s. message_key s g) here;
      behind = record {
        secret = took.secret ∙ ap (λ s. next_ratchet_secret s g) here ∙ ap (ratchet_secret first) (sym took.next);
        kept = λ k m e.
            let some = kept_ahead first r g k m is took.from (or_cases _ _ m (sym (find_ahead r g k t took) ∙ e)) in
            let n = took.next in
            let low : k < suc g = some.0 in
            (omega arith, some.1);
      };
    }

pub is_taken : (first : List ℕ) (r : Ratcheting) (g : ℕ) (t : MessageKey × Ratcheting) → IsRatchetOf first r → take_key r g ≡ Ok t → IsTaken first g t
is_taken first r g t is e = elim (took r g t e) [
  | inl kept ↦ taken_kept first r g t is kept
  | inr ahead ↦ taken_ahead first r g t is ahead
]

-- when a key is refused, and when it isn't
pub record IsAnsweredHere (r : Ratcheting) (g : ℕ) : Type 0 where
  pub too_far : r.next + window < g → take_key r g ≡ Err 115
  pub used : ratchet_holds r g ≡ false → take_key r g ≡ Err 116
  pub taken : g ≤ r.next + window → ratchet_holds r g ≡ true → (t : MessageKey × Ratcheting) × (take_key r g ≡ Ok t)

answered_used : (r : Ratcheting) (g : ℕ) → ratchet_holds r g ≡ false → take_key r g ≡ Err 116
unfolding take_kept
answered_used r g e = elim (cases_lt g r.next) [
  | inl h ↦ key_before r g h ∙ ap (take_kept r g) (none_of (find_key g r.kept) (sym (holds_before r g h) ∙ e))
  | inr h ↦ (let wrong = sym (holds_next r g h) ∙ e in absurd cc)
]

answered_taken : (r : Ratcheting) (g : ℕ) → g ≤ r.next + window → ratchet_holds r g ≡ true → (t : MessageKey × Ratcheting) × (take_key r g ≡ Ok t)
unfolding take_kept
answered_taken r g w e = elim (cases_lt g r.next) [
  | inl h ↦ (let found = some_of (find_key g r.kept) (sym (holds_before r g h) ∙ e) in (_, key_before r g h ∙ ap (take_kept r g) found.1))
  | inr h ↦ (take_ahead r g, key_ahead r g h w)
]

pub answered_here : (r : Ratcheting) (g : ℕ) → IsAnsweredHere r g
answered_here r g = record { too_far = key_too_far r g; used = answered_used r g; taken = answered_taken r g }

-- what is held afterwards
pub record LosesOneHere (r : Ratcheting) (g : ℕ) (u : Ratcheting) : Type 0 where
  pub gone : ratchet_holds u g ≡ false
  pub near : (k : ℕ) → (k ≡ g → ⊥) → g ≤ k + window → ratchet_holds u k ≡ ratchet_holds r k
  pub no_more : (k : ℕ) → ratchet_holds u k ≡ true → ratchet_holds r k ≡ true

same_before : (r u : Ratcheting) (k : ℕ) → u.next ≡ r.next → find_key k u.kept ≡ find_key k r.kept → ratchet_holds u k ≡ ratchet_holds r k
unfolding ratchet_holds
same_before r u k n f = ap (λ m. not (ltb k m) || is_some (find_key k u.kept)) n ∙ ap (λ o. not (ltb k r.next) || is_some o) f

loses_kept : (r : Ratcheting) (g : ℕ) (t : MessageKey × Ratcheting) → TookKept r g t → LosesOneHere r g t.1
loses_kept r g t took =
    let other : (k : ℕ) → (k ≡ g → ⊥) → ratchet_holds t.1 k ≡ ratchet_holds r k
    = λ k ne. same_before r t.1 k took.next (ap (find_key k) took.kept ∙ find_other g k r.kept ne) in
    let low : g < t.1.next = let b = took.before in let n = took.next in omega arith in
    let gone : ratchet_holds t.1 g ≡ false = holds_before t.1 g low ∙ ap is_some (ap (find_key g) took.kept ∙ find_used g r.kept) in
    record {
      gone = gone;
      near = λ k ne w. other k ne;
      no_more = λ k e. elim (cases_eq k g) [
        | inl same ↦ (let wrong = sym (ap (ratchet_holds t.1) same ∙ gone) ∙ e in absurd cc)
        | inr ne ↦ sym (other k ne) ∙ e
      ];
    }

none_at : (first : List ℕ) (r : Ratcheting) (g : ℕ) (o : Option MessageKey) → IsRatchetOf first r → r.next ≤ g → find_key g r.kept ≡ o → o ≡ None
none_at first r g None is h e = refl
none_at first r g (Some m) is h e = let low : g < r.next = (is.kept g m e).0 in absurd (omega arith)

gone_ahead : (first : List ℕ) (r : Ratcheting) (g : ℕ) (t : MessageKey × Ratcheting) → IsRatchetOf first r → TookAhead r g t → ratchet_holds t.1 g ≡ false
gone_ahead first r g t is took =
    let n : t.1.next ≡ suc g = took.next in
    let from : r.next ≤ g = took.from in
    let none : find_key g t.1.kept ≡ None =
    find_ahead r g g t took
    ∙ ap (λ o. or_else o (find_key g (passed_keys r.secret r.next (g - r.next)))) (find_near g g r.kept (omega arith) ∙ none_at first r g (find_key g r.kept) is from refl)
    ∙ passed_after r.secret r.next (g - r.next) g (omega arith) in
    holds_before t.1 g (omega arith) ∙ ap is_some none

near_ahead : (first : List ℕ) (r : Ratcheting) (g k : ℕ) (t : MessageKey × Ratcheting) → IsRatchetOf first r → TookAhead r g t
    → (k ≡ g → ⊥) → g ≤ k + window → ratchet_holds t.1 k ≡ ratchet_holds r k
near_ahead first r g k t is took ne w =
    let n : t.1.next ≡ suc g = took.next in
    let from : r.next ≤ g = took.from in
    elim (cases_lt g k) [
      | inl past ↦ holds_next t.1 k (omega arith) ∙ sym (holds_next r k (omega arith))
      | inr low ↦ elim (cases_lt k r.next) [
        | inl before ↦
            holds_before t.1 k (omega (arith, ne))
            ∙ ap is_some (find_ahead r g k t took ∙ ap (or_else (find_key k (near_keys g r.kept))) (passed_before r.secret r.next (g - r.next) k before) ∙ or_none _ ∙ find_near g k r.kept w)
            ∙ sym (holds_before r k before)
        | inr since ↦
            holds_before t.1 k (omega (arith, ne))
            ∙ ap is_some (find_ahead r g k t took ∙ ap (or_else (find_key k (near_keys g r.kept))) (passed_within first r.secret r.next (g - r.next) k is.secret since (omega (arith, ne))))
            ∙ or_some _ _ ∙ sym (holds_next r k since)
      ]
    ]

no_more_ahead : (first : List ℕ) (r : Ratcheting) (g k : ℕ) (t : MessageKey × Ratcheting) → IsRatchetOf first r → TookAhead r g t
    → ratchet_holds t.1 k ≡ true → ratchet_holds r k ≡ true
no_more_ahead first r g k t is took e =
    let n : t.1.next ≡ suc g = took.next in
    let from : r.next ≤ g = took.from in
    elim (cases_lt k r.next) [
      | inr since ↦ holds_next r k since
      | inl before ↦
          let held = find_ahead r g k t took ∙ ap (or_else (find_key k (near_keys g r.kept))) (passed_before r.secret r.next (g - r.next) k before) ∙ or_none _ in
          let some = some_of (find_key k (near_keys g r.kept)) (ap is_some (sym held) ∙ sym (holds_before t.1 k (omega arith)) ∙ e) in
          holds_before r k before ∙ ap is_some (near_only g k r.kept some.0 some.1)
    ]

pub loses_one_here : (first : List ℕ) (r : Ratcheting) (g : ℕ) (t : MessageKey × Ratcheting) → IsRatchetOf first r → take_key r g ≡ Ok t → LosesOneHere r g t.1
loses_one_here first r g t is e = elim (took r g t e) [
  | inl kept ↦ loses_kept r g t kept
  | inr ahead ↦ record {
    gone = gone_ahead first r g t is ahead;
    near = λ k ne w. near_ahead first r g k t is ahead ne w;
    no_more = λ k h. no_more_ahead first r g k t is ahead h;
  }
]
