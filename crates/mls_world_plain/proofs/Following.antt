-- What a store of journals does.
use Rattle.std.proofs.Common.{◌≡◌, ℕ, zero, suc, ◌<◌, ◌⊎◌, inl, inr, Bool, true, false, List, [], ◌∷◌, ◌++◌, ◌-◌, length, Option, Some, None, IfSome, option_map, Ok, slice_get, slice_set, get_or, refl, sym, ap, subst, ◌∙◌, arith}
use Rattle.std.specs.Global.{Vec}
use Rattle.std.specs.Vec.{vec_len, vec_capacity}
use Rattle.std.proofs.lemmas.List.{append-nil, length-append, length-map, map-append, map-set}
use Rattle.std.proofs.lemmas.Option.{slice_get-map, slice_get_read, slice_get_within, same_Some}
use Rattle.mls_model.specs.declared.effect.Effect.{Effect}
use Rattle.mls_model.specs.declared.effect.Effect.TheVariants.{Proposed, Known, Advanced, Removed}
use Rattle.mls_model.specs.Journal.{Entry, Journal, with_entry}
use Rattle.mls_world_plain.specs.declared.entry.JournalStep.{JournalStep}
use Rattle.mls_world_plain.specs.declared.entry.JournalStep.TheVariants.{Followed}
use Rattle.mls_world_plain.specs.declared.entry.StoredStep.{StoredStep}
use Rattle.mls_world_plain.specs.StoredWorld.{journal_at, AreMore, JournalStore}
use Rattle.mls_world_plain.specs.JournalSteps.{journal_of, journals_of, with_followed, AddsFollower, AreSteps, Follows, GoBack, GoesBack, GoesOn, GoOn, HasStep, SameJournals, Shares, followers_of, steps_of, store_of}
use Rattle.mls_world_plain.specs.CallParts.{is_advanced, StoresEntry}
use Rattle.mls_world_plain.proofs.JournalSteps.{as_many, goes_behind, goes_none, journal_seam, journal_stays, one_more, step_at}

pub as_long : (ss : List StoredStep) → length (journals_of [] (steps_of ss)) ≡ length ss
as_long ss = as_many (steps_of ss) ∙ length-map ss (λ (s : StoredStep). s.step)

-- ---- no steps

pub none_stand : (ss : List StoredStep) → ss ≡ [] → AreSteps ss
none_stand ss e = subst (λ (l : List StoredStep). AreSteps l) (sym e) (record { back = goes_none; on = λ b n h. absurd cc })

pub none_listed : (ss : List StoredStep) → ss ≡ [] → journals_of [] (steps_of ss) ≡ []
unfolding journals_of
none_listed ss e = ap (λ (l : List StoredStep). journals_of [] (steps_of l)) e

-- ---- a step is added

abbrev one_with : JournalStep → StoredStep
one_with s = record { step = s; follower = None }

steps_more : (ss new : List StoredStep) (s : JournalStep) → new ≡ ss ++ one_with s ∷ [] → steps_of new ≡ steps_of ss ++ s ∷ []
steps_more ss new s e = ap (λ (l : List StoredStep). steps_of l) e ∙ map-append (λ (x : StoredStep). x.step) ss (one_with s ∷ [])

list_more : (ss new : List StoredStep) (s : JournalStep) → new ≡ ss ++ one_with s ∷ [] → journals_of [] (steps_of new) ≡ journals_of [] (steps_of ss) ++ journal_of (journals_of [] (steps_of ss)) s ∷ []
list_more ss new s e = ap (λ (l : List JournalStep). journals_of [] l) (steps_more ss new s e) ∙ one_more (steps_of ss) s

followers_more : (ss new : List StoredStep) (s : JournalStep) → new ≡ ss ++ one_with s ∷ [] → followers_of new ≡ followers_of ss ++ None ∷ []
followers_more ss new s e = ap (λ (l : List StoredStep). followers_of l) e ∙ map-append (λ (x : StoredStep). x.follower) ss (one_with s ∷ [])

behind_old : (fs : List (Option ℕ)) (b n : ℕ) → slice_get (fs ++ None ∷ []) b ≡ Some (Some n) → slice_get fs b ≡ Some (Some n)
behind_old [] zero n h = absurd cc
behind_old [] (suc b) n h = h
behind_old (f ∷ fs) zero n h = h
behind_old (f ∷ fs) (suc b) n h = behind_old fs b n h

goes_on_more : (js more : List Journal) (b n : ℕ) → b < length js → GoesOn js b n → GoesOn (js ++ more) b n
goes_on_more js more b n lt h = record {
  within = omega (arith, length-append js more, h.within);
  entry = h.entry;
  is = journal_stays js more n h.within ∙ h.is ∙ ap (λ (j : Journal). with_entry j h.entry) (sym (journal_stays js more b lt));
}

steps_stand : (ss new : List StoredStep) (s : JournalStep) → AreSteps ss → GoesBack (length (journals_of [] (steps_of ss))) s → new ≡ ss ++ one_with s ∷ [] → AreSteps new
steps_stand ss new s h back e = record {
  back = subst (λ (l : List JournalStep). GoBack 0 l) (sym (steps_more ss new s e)) (goes_behind (steps_of ss) s h.back back);
  on = λ b n found.
      let there : slice_get (followers_of ss) b ≡ Some (Some n) = behind_old (followers_of ss) b n (ap (λ (fs : List (Option ℕ)). slice_get fs b) (sym (followers_more ss new s e)) ∙ found) in
      let lt : b < length (journals_of [] (steps_of ss)) = omega (arith, slice_get_within (followers_of ss) b (Some n) there, length-map ss (λ (x : StoredStep). x.follower), as_long ss) in
      subst (λ (l : List Journal). GoesOn l b n) (sym (list_more ss new s e)) (goes_on_more (journals_of [] (steps_of ss)) (journal_of (journals_of [] (steps_of ss)) s ∷ []) b n lt (h.on b n there));
}

module _ (v : Vec StoredStep) (t : JournalStore) (view : store_of v ≡ t) where
  pub has_room : 0 < t.room → vec_len v < vec_capacity v
  has_room lt = let e : vec_capacity v - vec_len v ≡ t.room = ap (λ (s : JournalStore). s.room) view in omega (arith, e, lt)

  pub length_is : length t.list ≡ length v.items
  length_is = ap (λ (s : JournalStore). length s.list) (sym view) ∙ as_long v.items

  pub step_within : (n : ℕ) → n < length t.list → n < vec_len v
  step_within n lt = omega (arith, lt, length_is, v.ok.0)

  pub number_is : (n : ℕ) → n ≡ vec_len v → n ≡ length t.list
  number_is n e = e ∙ v.ok.0 ∙ sym length_is

  pub added_stands : (new : List StoredStep) (s : JournalStep) → AreSteps v.items → GoesBack (length t.list) s → new ≡ v.items ++ one_with s ∷ [] → AreSteps new
  added_stands new s h back e = steps_stand v.items new s h (subst (λ (k : ℕ). GoesBack k s) (ap (λ (x : JournalStore). length x.list) (sym view)) back) e

  pub added_list : (new : List StoredStep) (s : JournalStep) → new ≡ v.items ++ one_with s ∷ [] → journals_of [] (steps_of new) ≡ t.list ++ journal_of t.list s ∷ []
  added_list new s e = list_more v.items new s e ∙ ap (λ (x : JournalStore). x.list ++ journal_of x.list s ∷ []) view

  pub added_followers : (new : List StoredStep) (s : JournalStep) → new ≡ v.items ++ one_with s ∷ [] → followers_of new ≡ t.followers ++ None ∷ []
  added_followers new s e = followers_more v.items new s e ∙ ap (λ (x : JournalStore). x.followers ++ None ∷ []) view

  -- and where they stay
  pub same_list : (new : List StoredStep) → new ≡ v.items → journals_of [] (steps_of new) ≡ t.list
  same_list new e = ap (λ (l : List StoredStep). journals_of [] (steps_of l)) e ∙ ap (λ (x : JournalStore). x.list) view

  pub same_followers : (new : List StoredStep) → new ≡ v.items → followers_of new ≡ t.followers
  same_followers new e = ap (λ (l : List StoredStep). followers_of l) e ∙ ap (λ (x : JournalStore). x.followers) view

pub same_stand : (ss new : List StoredStep) → new ≡ ss → AreSteps ss → AreSteps new
same_stand ss new e h = subst (λ (l : List StoredStep). AreSteps l) (sym e) h

-- ---- a follower is noted

abbrev noted : StoredStep → ℕ → StoredStep
noted x n = record { step = x.step; follower = Some n }

steps_noted : (ss : List StoredStep) (b n : ℕ) (x : StoredStep) → x ≡ get_or ss b x → steps_of (slice_set ss b (noted x n)) ≡ steps_of ss
steps_noted [] b n x is = refl
steps_noted (y ∷ ss) zero n x is = ap (λ (z : StoredStep). z.step ∷ steps_of ss) is
steps_noted (y ∷ ss) (suc b) n x is = ap (λ (l : List JournalStep). y.step ∷ l) (steps_noted ss b n x is)

list_noted : (ss : List StoredStep) (b n : ℕ) (x : StoredStep) → x ≡ get_or ss b x → journals_of [] (steps_of (slice_set ss b (noted x n))) ≡ journals_of [] (steps_of ss)
list_noted ss b n x is = ap (λ (l : List JournalStep). journals_of [] l) (steps_noted ss b n x is)

followers_noted : (ss : List StoredStep) (b n : ℕ) (x : StoredStep) → followers_of (slice_set ss b (noted x n)) ≡ slice_set (followers_of ss) b (Some n)
followers_noted ss b n x = map-set (λ (s : StoredStep). s.follower) ss b (noted x n)

noted_or_old : (fs : List (Option ℕ)) (b c n m : ℕ) → slice_get (slice_set fs b (Some n)) c ≡ Some (Some m) → ((c ≡ b) × (m ≡ n)) ⊎ (slice_get fs c ≡ Some (Some m))
noted_or_old [] b c n m h = inr h
noted_or_old (f ∷ fs) zero zero n m h = inl (refl, cc)
noted_or_old (f ∷ fs) zero (suc c) n m h = inr h
noted_or_old (f ∷ fs) (suc b) zero n m h = inr h
noted_or_old (f ∷ fs) (suc b) (suc c) n m h = elim (noted_or_old fs b c n m h) [ inl p ↦ inl (ap suc p.0, p.1) | inr q ↦ inr q ]

goes_at : (js : List Journal) (b c n m : ℕ) → c ≡ b → m ≡ n → GoesOn js b n → GoesOn js c m
goes_at js b c n m p q h = subst (λ (k : ℕ). GoesOn js k m) (sym p) (subst (λ (k : ℕ). GoesOn js b k) (sym q) h)

steps_stay : (ss : List StoredStep) (b n : ℕ) (x : StoredStep) → AreSteps ss → GoesOn (journals_of [] (steps_of ss)) b n → x ≡ get_or ss b x → AreSteps (slice_set ss b (noted x n))
steps_stay ss b n x h on is = record {
  back = subst (λ (l : List JournalStep). GoBack 0 l) (sym (steps_noted ss b n x is)) h.back;
  on = λ c m found.
      let there : slice_get (slice_set (followers_of ss) b (Some n)) c ≡ Some (Some m) = ap (λ (fs : List (Option ℕ)). slice_get fs c) (sym (followers_noted ss b n x)) ∙ found in
      let goes : GoesOn (journals_of [] (steps_of ss)) c m = elim (noted_or_old (followers_of ss) b c n m there) [ inl p ↦ goes_at (journals_of [] (steps_of ss)) b c n m p.0 p.1 on | inr q ↦ h.on c m q ] in
      subst (λ (l : List Journal). GoesOn l c m) (sym (list_noted ss b n x is)) goes;
}

module _ (v : Vec StoredStep) (t : JournalStore) (view : store_of v ≡ t) (b n : ℕ) (x : StoredStep) (is : x ≡ get_or v.items b x) where
  pub noted_stands : AreSteps v.items → GoesOn t.list b n → AreSteps (slice_set v.items b (noted x n))
  noted_stands h on = steps_stay v.items b n x h (subst (λ (s : JournalStore). GoesOn s.list b n) (sym view) on) is

  pub noted_list : journals_of [] (steps_of (slice_set v.items b (noted x n))) ≡ t.list
  noted_list = list_noted v.items b n x is ∙ ap (λ (s : JournalStore). s.list) view

  pub noted_followers : followers_of (slice_set v.items b (noted x n)) ≡ slice_set t.followers b (Some n)
  noted_followers = followers_noted v.items b n x ∙ ap (λ (s : JournalStore). slice_set s.followers b (Some n)) view

-- ---- what is read

step_read : (ss : List StoredStep) (n : ℕ) (x : StoredStep) → n < length ss → x ≡ get_or ss n x → x.step ≡ get_or (steps_of ss) n x.step
step_read [] n x lt is = absurd (omega arith)
step_read (y ∷ ss) zero x lt is = ap (λ (z : StoredStep). z.step) is
step_read (y ∷ ss) (suc n) x lt is = step_read ss n x (omega arith) is

module _ (v : Vec StoredStep) (t : JournalStore) (view : store_of v ≡ t) (n : ℕ) (x : StoredStep) (lt : n < length t.list) (is : x ≡ get_or v.items n x) where
  pub step_there : AreSteps v.items → HasStep t.list n x.step
  step_there h =
      let inside : n < length v.items = omega (arith, lt, length_is v t view) in
      let within : n < length (steps_of v.items) = omega (arith, inside, length-map v.items (λ (s : StoredStep). s.step)) in
      subst (λ (s : JournalStore). HasStep s.list n x.step) view (step_at (steps_of v.items) n x.step h.back within (step_read v.items n x inside is))

  pub follower_read : slice_get t.followers n ≡ Some x.follower
  follower_read =
      ap (λ (s : JournalStore). slice_get s.followers n) (sym view) ∙ slice_get-map (λ (s : StoredStep). s.follower) v.items n
      ∙ ap (λ (o : Option StoredStep). option_map (λ (s : StoredStep). s.follower) o) (slice_get_read v.items (length t.list) n x (length_is v t view) lt is)

  pub follower_goes_on : AreSteps v.items → IfSome x.follower (λ m. GoesOn t.list n m)
  follower_goes_on h = by x.follower follower_read
    where
      on : GoOn t.list t.followers
      on = subst (λ (s : JournalStore). GoOn s.list s.followers) view h.on

      by : (f : Option ℕ) → slice_get t.followers n ≡ Some f → IfSome f (λ m. GoesOn t.list n m)
      by None e = tt
      by (Some m) e = on n m e

-- ---- the latest entry

pub latest_compared : (o : Option Entry) (a e : Entry) (r : Bool) → Some a ≡ o → (r ≡ true → a ≡ e) × (a ≡ e → r ≡ true) → (r ≡ true → o ≡ Some e) × (o ≡ Some e → r ≡ true)
latest_compared o a e r there same = (λ t. sym there ∙ ap (λ (x : Entry). Some x) (same.0 t), λ is. same.1 (same_Some a e (there ∙ is)))

pub no_latest : (o : Option Entry) (e : Entry) → None ≡ o → (false ≡ true → o ≡ Some e) × (o ≡ Some e → false ≡ true)
no_latest o e none = (λ t. absurd cc, λ is. absurd cc)

-- ---- what is shared

same_follower : (o : Option (Option ℕ)) (n k : ℕ) → o ≡ Some (Some n) → o ≡ Some (Some k) → n ≡ k
same_follower o n k p q = cc

pub shared_there : (s : JournalStore) (b : ℕ) (e : Entry) (n : ℕ) (r : Bool) → slice_get s.followers b ≡ Some (Some n) → (r ≡ true → slice_get (journal_at s.list n).entries 0 ≡ Some e) × (slice_get (journal_at s.list n).entries 0 ≡ Some e → r ≡ true) → r ≡ true → Shares s b e n
shared_there s b e n r follower latest is_so = record { follower = follower; entry = latest.0 is_so }

pub other_follower : (s : JournalStore) (b : ℕ) (e : Entry) (n : ℕ) (r : Bool) → slice_get s.followers b ≡ Some (Some n) → (r ≡ true → slice_get (journal_at s.list n).entries 0 ≡ Some e) × (slice_get (journal_at s.list n).entries 0 ≡ Some e → r ≡ true) → r ≡ false → (k : ℕ) → Shares s b e k → ⊥
other_follower s b e n r there latest isnt k h =
    let same : k ≡ n = same_follower (slice_get s.followers b) k n h.follower there in
    let is_so : r ≡ true = latest.1 (subst (λ (i : ℕ). slice_get (journal_at s.list i).entries 0 ≡ Some e) same h.entry) in
    cc

pub no_follower : (s : JournalStore) (b : ℕ) (e : Entry) → slice_get s.followers b ≡ Some None → (k : ℕ) → Shares s b e k → ⊥
no_follower s b e there k h = let f = h.follower in cc

-- ---- an entry is followed to a journal that is shared

pub shared_journal : (s : JournalStore) (b : ℕ) (e : Entry) (n : ℕ) → Shares s b e n × GoesOn s.list b n → journal_at s.list n ≡ with_entry (journal_at s.list b) e
shared_journal s b e n h =
    let latest : Some h.1.entry ≡ Some e = sym (ap (λ (j : Journal). slice_get j.entries 0) h.1.is) ∙ h.0.entry in
    h.1.is ∙ ap (λ (x : Entry). with_entry (journal_at s.list b) x) (same_Some h.1.entry e latest)

pub shared_follows : (s : JournalStore) (b : ℕ) (e : Entry) (n : ℕ) → Shares s b e n × GoesOn s.list b n → Follows s b e s n
shared_follows s b e n h = record {
  shares = λ k g. (same_follower (slice_get s.followers b) n k h.0.follower g.follower, (refl, refl));
  adds = λ none. absurd (none n h.0);
}

-- ---- and to one that is added

module _ (js mid : List Journal) (b : ℕ) (e : Entry) (n : ℕ) (list : mid ≡ js ++ journal_of js (Followed b e) ∷ []) (last : n ≡ length js) where
  last_is : journal_at mid n ≡ with_entry (journal_at js b) e
  last_is = ap (λ (l : List Journal). journal_at l n) list ∙ ap (λ (k : ℕ). journal_at (with_followed js b e) k) last ∙ journal_seam js (with_entry (journal_at js b) e)

  there : n < length mid
  there = omega (arith, last, ap (λ (l : List Journal). length l) list, length-append js (with_entry (journal_at js b) e ∷ []))

  pub added_goes_on : b < length js → GoesOn mid b n
  added_goes_on lt =
      let stays : journal_at mid b ≡ journal_at js b = ap (λ (l : List Journal). journal_at l b) list ∙ journal_stays js (with_entry (journal_at js b) e ∷ []) b lt in
      record { within = there; entry = e; is = last_is ∙ ap (λ (j : Journal). with_entry j e) (sym stays) }

  pub added_before : b < length js → b < length mid
  added_before lt = omega (arith, lt, ap (λ (l : List Journal). length l) list, length-append js (with_entry (journal_at js b) e ∷ []))

  pub added_journal : (new : List Journal) → new ≡ mid → journal_at new n ≡ with_entry (journal_at js b) e
  added_journal new same = ap (λ (l : List Journal). journal_at l n) same ∙ last_is

  pub added_within : (new : List Journal) → new ≡ mid → n < length new
  added_within new same = subst (λ (l : List Journal). n < length l) (sym same) there

  pub added_more : (new : List Journal) → new ≡ mid → AreMore js new
  added_more new same = record { more = with_entry (journal_at js b) e ∷ []; are = same ∙ list }

pub added_follows : (old mid new : JournalStore) (b : ℕ) (e : Entry) (n : ℕ) → ((k : ℕ) → Shares old b e k → ⊥) → mid.list ≡ old.list ++ journal_of old.list (Followed b e) ∷ [] → mid.followers ≡ old.followers ++ None ∷ [] → n ≡ length old.list → new.list ≡ mid.list → new.followers ≡ slice_set mid.followers b (Some n) → Follows old b e new n
added_follows old mid new b e n none list followers last same set = record {
  shares = λ k g. absurd (none k g);
  adds = λ _. (
    last,
    record {
      list = same ∙ list;
      followers = set ∙ ap (λ (fs : List (Option ℕ)). slice_set fs b (Some n)) followers ∙ ap (λ (k : ℕ). slice_set (old.followers ++ None ∷ []) b (Some k)) last;
    },
  );
}

-- ---- room that is made changes nothing

pub more_behind : (js mid new : List Journal) → mid ≡ js → AreMore mid new → AreMore js new
more_behind js mid new e h = subst (λ (l : List Journal). AreMore l new) e h

pub more_same : (js mid : List Journal) → mid ≡ js → AreMore js mid
more_same js mid e = record { more = []; are = e ∙ sym (append-nil js) }

pub within_same : (js mid : List Journal) (n : ℕ) → mid ≡ js → n < length js → n < length mid
within_same js mid n e lt = subst (λ (l : List Journal). n < length l) (sym e) lt

module _ (old mid : JournalStore) (list : mid.list ≡ old.list) (followers : mid.followers ≡ old.followers) where
  shares_there : (b : ℕ) (e : Entry) (n : ℕ) → Shares old b e n → Shares mid b e n
  shares_there b e n h = record {
    follower = ap (λ (fs : List (Option ℕ)). slice_get fs b) followers ∙ h.follower;
    entry = ap (λ (js : List Journal). slice_get (journal_at js n).entries 0) list ∙ h.entry;
  }

  shares_here : (b : ℕ) (e : Entry) (n : ℕ) → Shares mid b e n → Shares old b e n
  shares_here b e n h = record {
    follower = ap (λ (fs : List (Option ℕ)). slice_get fs b) (sym followers) ∙ h.follower;
    entry = ap (λ (js : List Journal). slice_get (journal_at js n).entries 0) (sym list) ∙ h.entry;
  }

  adds_here : (b : ℕ) (e : Entry) (new : JournalStore) → AddsFollower mid b e new → AddsFollower old b e new
  adds_here b e new h = record {
    list = h.list ∙ ap (λ (js : List Journal). with_followed js b e) list;
    followers = h.followers ∙ ap (λ (fs : List (Option ℕ)). slice_set (fs ++ None ∷ []) b (Some (length mid.list))) followers ∙ ap (λ (js : List Journal). slice_set (old.followers ++ None ∷ []) b (Some (length js))) list;
  }

  pub follows_here : (b : ℕ) (e : Entry) (new : JournalStore) (n : ℕ) → Follows mid b e new n → Follows old b e new n
  follows_here b e new n h = record {
    shares = λ k g. let r = h.shares k (shares_there b e k g) in (r.0, (r.1.0 ∙ list, r.1.1 ∙ followers));
    adds = λ none. let r = h.adds (λ k g. none k (shares_here b e k g)) in (r.0 ∙ ap (λ (js : List Journal). length js) list, adds_here b e new r.1);
  }

-- ---- what bytes leave of a store

pub stores_followed : (old new : JournalStore) (b : ℕ) (e : Entry) (n : ℕ) (f : Effect) → true ≡ is_advanced f → Follows old b e new n → StoresEntry old b e new n (Ok f)
stores_followed old new b e n (Proposed r) h g = absurd cc
stores_followed old new b e n (Known r) h g = absurd cc
stores_followed old new b e n (Advanced k) h g = g
stores_followed old new b e n Removed h g = absurd cc

pub stores_none : (old new : JournalStore) (b : ℕ) (e : Entry) (n : ℕ) (f : Effect) → false ≡ is_advanced f → SameJournals old new → StoresEntry old b e new n (Ok f)
stores_none old new b e n (Proposed r) h g = g
stores_none old new b e n (Known r) h g = g
stores_none old new b e n (Advanced k) h g = absurd cc
stores_none old new b e n Removed h g = g
