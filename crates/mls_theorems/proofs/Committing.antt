-- A good world is kept by a commit that a member makes.
use Rattle.std.proofs.Common.{◌≡◌, ℕ, ◌+◌, Bool, false, List, [], ◌∷◌, ◌++◌, length, Option, Some, None, Ok, refl, sym, ap, subst, ◌∙◌, inl, slice_get, arith}
use Rattle.std.specs.Prelude.{option_map}
use Rattle.std.specs.List.{AllByRecursion}
use Rattle.std.proofs.lemmas.Bool.{not-true}
use Rattle.mls_wire.proofs.CheckLaws.{then_ok, bind_ok, given_ok}
use Rattle.mls_wire.specs.Checks.{passed}
use Rattle.mls_wire.specs.Format.{IsBytes}
use Rattle.mls_wire.specs.Laws.{ok_is}
use Rattle.mls_leaf.specs.declared.key_package.KeyPackage.{KeyPackage}
use Rattle.mls_types.specs.GroupInfo.{group_info}
use Rattle.mls_types.specs.declared.group_info.GroupInfo.{GroupInfo}
use Rattle.mls_types.specs.Commit.{proposal_or_ref}
use Rattle.mls_types.specs.Message.{mls_message}
use Rattle.mls_types.specs.declared.commit.ProposalOrRef.{ProposalOrRef}
use Rattle.mls_types.specs.declared.message.MlsMessage.TheVariants as message
use Rattle.mls_suite.specs.Crypto.{Crypto}
use Rattle.mls_schedule.specs.Epoch.{welcome_key, welcome_nonce}
use Rattle.mls_model.specs.declared.event.Reply.{Reply}
use Rattle.mls_model.specs.declared.event.WorldItem.{WorldItem}
use Rattle.mls_model.specs.MemberInvariant.{IsGoodMember}
use Rattle.mls_model.specs.WorldCalls.{commit_record, commit_messages, commit_answer}
use Rattle.mls_model.specs.Claims.{IsMade}
use Rattle.mls_model.specs.Commit.{Change}
use Rattle.mls_model.proofs.CommitLaws.{names_in_order}
use Rattle.mls_model.specs.Headline.{IsPendingOf}
use Rattle.mls_model.specs.Invariant.{IsRecorded, IsGoodBy, IsGoodWorld}
use Rattle.mls_model.specs.Journal.{CommitMade, names_in, list_in}
use Rattle.mls_model.specs.Make.{MadePath, Made, make, welcome_if}
use Rattle.mls_model.specs.Member.{Member, Pending, with_pending}
use Rattle.mls_model.specs.Messages.{require_within_limit}
use Rattle.mls_model.specs.JournalState.{Creations}
use Rattle.mls_model.specs.EventRange.{IsItemInRange}
use Rattle.mls_model.specs.Welcome.{entries_for, welcome_message}
use Rattle.mls_model.specs.World.{World, Seat, with_member, seat_at, items_of}
use Rattle.mls_theorems.proofs.CommitEntries.{made_along}
use Rattle.mls_theorems.specs.CommitCalls.{Makes, made_of}
use Rattle.mls_theorems.proofs.Makes.{make_did}
use Rattle.mls_theorems.proofs.Pends.{made_pends}
use Rattle.mls_theorems.proofs.UnchangedMembers.{pending_good}
use Rattle.mls_theorems.proofs.Journals.{pending_same, same_itself}
use Rattle.mls_theorems.proofs.Changes.{KeepsOn, keeps_same, AreMessages, one_message, two_messages, more_messages, IsNewNumber, more_made, change_member}
use Rattle.mls_theorems.proofs.Lists.{some, grows_none, get_append, get_length, get_below, get_second}
use Rattle.mls_theorems.proofs.Past.{past_grows, reached_same}
use Rattle.mls_theorems.proofs.Secrets.{pending_message}
use Rattle.mls_theorems.proofs.SentLists.{lists_fit}
use Rattle.mls_theorems.proofs.Sources.{bytes_within, items_fit}

-- ---- its messages

welcome_within : (c : Crypto) (info : GroupInfo) (joiner : List ℕ) (secrets rnd : ℕ → List ℕ) (n : ℕ) (joiners : List (KeyPackage × ℕ)) (bytes : List ℕ) → welcome_message c info joiner secrets rnd n joiners ≡ Ok bytes → require_within_limit bytes ≡ Ok passed
unfolding welcome_message
welcome_within c info joiner secrets rnd n joiners bytes h =
    let sealed : List ℕ = c.aead_seal (welcome_key joiner) (welcome_nonce joiner) [] (group_info.spell info) in
    let s1 = then_ok (require_within_limit (group_info.spell info)) _ _ h in
    let s2 = bind_ok (entries_for c sealed secrets rnd n joiners) _ _ s1.1 in
    let out : List ℕ = mls_message.spell (message.Welcome (record { cipher_suite = c.number; secrets = s2.0; encrypted_group_info = sealed })) in
    let s3 = then_ok (require_within_limit out) _ _ s2.2 in
    subst (λ (b : List ℕ). require_within_limit b ≡ Ok passed) (ok_is out bytes s3.1) s3.0

one_some : (o : Option (List ℕ)) (x y : List ℕ) → some x ≡ o → o ≡ Some y → x ≡ y
one_some o x y a b = cc

none_some : (o : Option (List ℕ)) (y : List ℕ) → None ≡ o → o ≡ Some y → ⊥
none_some o y a b = cc

if_within : (c : Crypto) (m : Member) (change : Change) (made : MadePath) (joiner tag seed : List ℕ) (joiners : List (KeyPackage × ℕ)) (o : Option (List ℕ)) (bytes : List ℕ) → welcome_if c m change made joiner tag seed joiners ≡ Ok o → o ≡ Some bytes → require_within_limit bytes ≡ Ok passed
if_within c m change made joiner tag seed [] o bytes h e = absurd (none_some o bytes (ok_is None o h) e)
if_within c m change made joiner tag seed (x ∷ xs) o bytes h e =
    let s = bind_ok _ _ _ h in
    subst (λ (b : List ℕ). require_within_limit b ≡ Ok passed) (one_some o s.0 bytes (ok_is (some s.0) o s.2) e) (welcome_within c _ joiner _ _ _ (x ∷ xs) s.0 s.1)

record MadeWithin (made : Made) : Type 0 where
  commit : require_within_limit made.commit ≡ Ok passed
  welcome : (bytes : List ℕ) → made.welcome ≡ Some bytes → require_within_limit bytes ≡ Ok passed

made_within : (c : Crypto) (m : Member) (list : List ProposalOrRef) (wants_path : Bool) (seed : List ℕ) (made : Made) → Makes c m list wants_path seed made → MadeWithin made
unfolding made_of
made_within c m list wants_path seed made k = subst MadeWithin k.made_is (record { commit = k.short; welcome = λ bytes e. if_within c m k.change k.path _ _ seed _ k.welcome bytes k.welcome_is e })

messages_by : (made : Made) (o : Option (List ℕ)) → IsBytes made.commit → ((bytes : List ℕ) → o ≡ Some bytes → IsBytes bytes) → AreMessages (commit_messages made o)
messages_by made None a b = one_message made.commit a
messages_by made (Some welcome) a b = two_messages made.commit welcome a (b welcome refl)

-- ---- its record

abbrev numbered : ℕ → List ℕ → ℕ × List ℕ
numbered k b = (k, b)

-- a Welcome has the number behind that of its commit
number_is : (o : Option (List ℕ)) (k n : ℕ) (x : List ℕ) → option_map (numbered k) o ≡ Some (n, x) → (k ≡ n) × (o ≡ Some x)
number_is None k n x h = absurd cc
number_is (Some b) k n x h = let e : Path (ℕ × List ℕ) (k, b) (n, x) = cc in (ap (λ (p : ℕ × List ℕ). p.0) e, ap (λ (p : ℕ × List ℕ). some p.1) e)

welcome_back : (o : Option (List ℕ)) (k : ℕ) → option_map (λ (x : ℕ × List ℕ). x.1) (option_map (numbered k) o) ≡ o
welcome_back None k = refl
welcome_back (Some b) k = refl

welcome_at : (made : Made) (messages : List (List ℕ)) (o : Option (List ℕ)) (x : List ℕ) → o ≡ Some x → slice_get (messages ++ commit_messages made o) (length messages + 1) ≡ Some x
welcome_at made messages None x e = absurd cc
welcome_at made messages (Some b) x e = get_second messages [] made.commit b ∙ e

recorded : (c : Crypto) (creations : Creations) (w : World) (k : ℕ) (s : Seat) (list : List ProposalOrRef) (made : Made) → IsGoodBy c creations w → slice_get w.seats k ≡ Some s → s.member.gone ≡ false → IsMade c s.member list made →
    IsRecorded c creations (record w { messages = w.messages ++ commit_messages made made.welcome; commits = w.commits ++ (commit_record w k s list made ∷ []) }) (commit_record w k s list made)
unfolding commit_record
recorded c creations w k s list made g at active is =
    let d : CommitMade = commit_record w k s list made in
    record {
      maker = s.member;
      list = list;
      call = made;
      seat = s;
      reached = past_grows c creations creations w.commits (w.commits ++ (d ∷ [])) (grows_none creations) (get_append w.commits (d ∷ [])) s.journal.origin s.journal.entries s.member (g.members k s (record { is = at; active = active })).reached;
      is_made = is;
      listed = (made_along c s.member list made is).lists;
      commit = refl;
      names = refl;
      adds = refl;
      epoch = refl;
      welcome = welcome_back made.welcome (length w.messages + 1);
      number = λ n bytes e.
          let p = number_is made.welcome (length w.messages + 1) n bytes e in
          subst (λ (i : ℕ). slice_get (w.messages ++ commit_messages made made.welcome) i ≡ Some bytes) p.0 (welcome_at made w.messages made.welcome bytes p.1);
      is_seat = at;
      same_signing = refl;
      since = inl (same_itself s.member);
      keeps = λ _. let k = make_did c s.member list is.wants_path is.seed made is.is in names_in_order s.member.kept s.member.keys.leaf list k.used k.uses;
    }

new_number : (c : Crypto) (creations : Creations) (w : World) (k : ℕ) (s : Seat) (list : List ProposalOrRef) (made : Made) → IsGoodBy c creations w → IsNewNumber w (commit_record w k s list made)
unfolding commit_record
new_number c creations w k s list made g i n x y e at is new =
    let low = get_below w.messages n y ((g.records i e at).number n y is) in
    let p = (number_is made.welcome (length w.messages + 1) n x new).0 in
    omega (arith, low, p)

-- ---- its maker

keeps_pending : (m : Member) (p : Pending) → KeepsOn m (with_pending m p)
unfolding with_pending
keeps_pending m p = keeps_same m (with_pending m p) refl

abbrev some_pending : Pending → Option Pending
some_pending p = Some p

is_pending : (m : Member) (p q : Pending) → (with_pending m p).pending ≡ Some q → some_pending p ≡ Some q
unfolding with_pending
is_pending m p q e = e

one_pending : (p q : Pending) → some_pending p ≡ Some q → p ≡ q
one_pending p q e = cc

pends : (c : Crypto) (w : World) (k : ℕ) (s : Seat) (list : List ProposalOrRef) (made : Made) (v : World) → v.commits ≡ w.commits ++ (commit_record w k s list made ∷ []) → IsMade c s.member list made →
    IsPendingOf v k (record { member = with_pending s.member made.pending; journal = s.journal }) made.pending
unfolding commit_record with_pending
pends c w k s list made v is_made is =
    let d : CommitMade = commit_record w k s list made in
    let message = pending_message c s.member list made is in
    let lists : list_in made.pending.message ≡ list = ap list_in message ∙ (made_along c s.member list made is).lists in
    record {
      which = d;
      place = length w.commits;
      is = ap (λ (l : List CommitMade). slice_get l (length w.commits)) is_made ∙ get_length w.commits d;
      maker = refl;
      journal = refl;
      commit = sym message;
      names = ap (names_in s.member.kept) (sym lists);
      epoch = refl;
    }

commits : (c : Crypto) (creations : Creations) (w : World) (k : ℕ) (s : Seat) (list : List ProposalOrRef) (wants_path : Bool) (seed : List ℕ) (made : Made) → IsGoodBy c creations w → slice_get w.seats k ≡ Some s →
    AllByRecursion proposal_or_ref.Fits list → make c s.member list wants_path seed ≡ Ok made →
    IsGoodBy c creations (record (with_member w k s (with_pending s.member made.pending)) { messages = w.messages ++ commit_messages made made.welcome; commits = w.commits ++ (commit_record w k s list made ∷ []) })
commits c creations w k s list wants_path seed made g at fits h =
    let steps = make_did c s.member list wants_path seed made h in
    let active : s.member.gone ≡ false = not-true s.member.gone steps.active in
    let good : IsGoodMember c s.member = (g.members k s (record { is = at; active = active })).good in
    let is : IsMade c s.member list made = record { good = good; fits = fits; wants_path = wants_path; seed = seed; is = h } in
    let within = made_within c s.member list wants_path seed made steps in
    let d : CommitMade = commit_record w k s list made in
    let g1 = more_messages c creations w (commit_messages made made.welcome) g (messages_by made made.welcome (bytes_within made.commit within.commit) (λ bytes e. bytes_within bytes (within.welcome bytes e))) in
    let w1 : World = record w { messages = w.messages ++ commit_messages made made.welcome } in
    let g2 = more_made c creations w1 d g1 (recorded c creations w k s list made g at active is) (new_number c creations w k s list made g) in
    let w2 : World = record w1 { commits = w.commits ++ (d ∷ []) } in
    let n : Member = with_pending s.member made.pending in
    let same = pending_same s.member made.pending in
    let good' : IsGoodMember c n = pending_good c s.member made.pending good (made_pends c s.member list made is) in
    change_member c creations w2 k s (record { member = n; journal = s.journal }) g2 at same.signing (inl same) (keeps_pending s.member made.pending)
    (λ _. reached_same c creations w2.commits s.journal.origin s.journal.entries s.member n same good' (g2.members k s (record { is = at; active = active })).reached)
    (λ p _ e. subst (IsPendingOf w2 k (record { member = n; journal = s.journal })) (one_pending made.pending p (is_pending s.member made.pending p e)) (pends c w k s list made w2 refl is))

pub commit_kept : (c : Crypto) (creations : Creations) (w : World) → IsGoodBy c creations w → (k : ℕ) (items : List WorldItem) (path : Bool) (seed : List ℕ) (x : Reply × World) → AllByRecursion IsItemInRange items → commit_answer c w k items path seed ≡ Ok x → IsGoodWorld c x.1
unfolding commit_answer
commit_kept c creations w g k items path seed x range h =
    let s1 = bind_ok (seat_at w k) _ _ h in
    let s2 = bind_ok (items_of w items) _ _ s1.2 in
    let s3 = bind_ok (make c s1.0.member s2.0 path seed) _ _ s2.2 in
    subst (λ (y : Reply × World). IsGoodWorld c y.1) (ok_is _ x s3.2)
    (creations, commits c creations w k s1.0 s2.0 path seed s3.0 g (given_ok 90 (slice_get w.seats k) s1.0 s1.1) (lists_fit c s1.0.member s2.0 path seed s3.0 (items_fit w items s2.0 g.messages range s2.1) s3.1) s3.1)
