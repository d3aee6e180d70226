-- Texts of replies and words of members, made one by one.
use Rattle.std.proofs.Common.{◌≡◌, ◌∙◌, ◌≤◌, ◌<◌, ◌++◌, ◌∷◌, [], ◌+◌, ℕ, List, Some, length, map, drop, get_or, string_bytes, refl, ap, sym, subst, append_assoc, append-nil}
use Rattle.std.proofs.lemmas.List.{map-append}
use Rattle.std.specs.Global.{Global}
use Rattle.std.specs.declared.string.String.{String}
use Rattle.mls_suite.specs.Crypto.{Crypto}
use Rattle.mls_model.specs.Member.{Member}
use Rattle.mls_model.specs.World.{Seat, World}
use Rattle.mls_cli_recording.specs.declared.reading.Recorded.{Recorded}
use Rattle.mls_cli_replay.specs.Actions.{outcome_in, outcomes, run_all, world_after}
use Rattle.mls_cli_replay.specs.RecordedReplies.{words_of_members}
use Rattle.mls_cli_replay.specs.Replay.{ReplayEntry, actions_of, entry_words, member_entries, member_entry}
use Rattle.mls_cli_replay.specs.Reply.{outcome_text}
use Rattle.mls_cli_replay.specs.declared.reply.Outcome.{Outcome}
use Rattle.mls_cli_replay.proofs.Naming.{member_at, nobody_left, split_at}
use Rattle.mls_cli_replay.proofs.Playing.{next_of, none_left, run_first, run_none}

-- ---- replies

abbrev pub texts_from : Crypto → World → List Recorded → List (List ℕ)
texts_from c w rs = map outcome_text (outcomes c w (actions_of rs))

texts_first : (c : Crypto) (w : World) (r : Recorded) (rs : List Recorded) → texts_from c w (r ∷ rs) ≡ outcome_text (outcome_in c w r.action) ∷ texts_from c (world_after c w r.action) rs
unfolding outcomes
texts_first c w r rs = refl

texts_none : (c : Crypto) (w : World) → texts_from c w [] ≡ []
unfolding outcomes
texts_none c w = refl

-- before the action of number i
pub record Replied (c : Crypto) (w : World) (all : List Recorded) (v : World) (texts : List (String Global)) (rest : List Recorded) : Type 0 where
  pub said : texts_from c w all ≡ map string_bytes texts ++ texts_from c v rest
  pub world : run_all c w (actions_of all) ≡ run_all c v (actions_of rest)

pub replied_nothing : (c : Crypto) (w : World) (all : List Recorded) → Replied c w all w [] all
replied_nothing c w all = record { said = refl; world = refl }

more_texts : (texts new : List (String Global)) (text : String Global) (rest : List (List ℕ)) → new ≡ texts ++ (text ∷ []) → map string_bytes new ++ rest ≡ map string_bytes texts ++ (string_bytes text ∷ rest)
more_texts texts new text rest grew =
    ap (λ (xs : List (String Global)). map string_bytes xs ++ rest) grew
    ∙ ap (λ (ts : List (List ℕ)). ts ++ rest) (map-append string_bytes texts (text ∷ []))
    ∙ append_assoc (map string_bytes texts) (string_bytes text ∷ []) rest

pub replied_step : (c : Crypto) (w : World) (all : List Recorded) (i : ℕ) (v u : World) (texts new : List (String Global)) (text : String Global) (o : Outcome) (r : Recorded)
    → i < length all → r ≡ get_or all i r → Replied c w all v texts (drop i all) → u ≡ world_after c v r.action → o ≡ outcome_in c v r.action
    → string_bytes text ≡ outcome_text o → new ≡ texts ++ (text ∷ []) → Replied c w all u new (drop (i + 1) all)
replied_step c w all i v u texts new text o r lt is p stepped came words grew =
    let rest = drop (i + 1) all in
    let before : Replied c w all v texts (r ∷ rest) = subst (Replied c w all v texts) (next_of all i r lt is) p in
    subst (λ (x : World). Replied c w all x new rest) (sym stepped) (record {
      said = before.said
          ∙ ap (λ (ts : List (List ℕ)). map string_bytes texts ++ ts) (texts_first c v r rest)
          ∙ ap (λ (t : List ℕ). map string_bytes texts ++ (t ∷ texts_from c (world_after c v r.action) rest)) (sym (words ∙ ap outcome_text came))
          ∙ sym (more_texts texts new text (texts_from c (world_after c v r.action) rest) grew);
      world = before.world ∙ run_first c v r rest;
    })

pub record RepliedAll (c : Crypto) (w : World) (all : List Recorded) (v : World) (texts : List (String Global)) : Type 0 where
  pub world : v ≡ run_all c w (actions_of all)
  pub said : map string_bytes texts ≡ texts_from c w all

pub replied_end : (c : Crypto) (w : World) (all : List Recorded) (i : ℕ) (v : World) (texts : List (String Global)) → length all ≤ i
    → Replied c w all v texts (drop i all) → RepliedAll c w all v texts
replied_end c w all i v texts le p =
    let last : Replied c w all v texts [] = subst (Replied c w all v texts) (none_left all i le) p in
    record {
      world = sym (last.world ∙ run_none c v);
      said = sym (last.said ∙ ap (λ (ts : List (List ℕ)). map string_bytes texts ++ ts) (texts_none c v) ∙ append-nil (map string_bytes texts));
    }

-- ---- members

first_entry : (k : ℕ) (s : Seat) (seats : List Seat) → member_entries k (s ∷ seats) ≡ member_entry k s.member ∷ member_entries (k + 1) seats
unfolding member_entries
first_entry k s seats = refl

no_entry : (k : ℕ) → member_entries k [] ≡ []
unfolding member_entries
no_entry k = refl

-- before member k
abbrev pub Worded : List Seat → ℕ → List (String Global) → Type 0
Worded seats k texts = map string_bytes texts ++ map entry_words (member_entries k (drop k seats)) ≡ words_of_members seats

pub worded_next : (seats : List Seat) (k : ℕ) (m : Member) (text : String Global) (texts new : List (String Global)) → member_at seats k ≡ Some m
    → string_bytes text ≡ entry_words (member_entry k m) → new ≡ texts ++ (text ∷ []) → Worded seats k texts → Worded seats (k + 1) new
worded_next seats k m text texts new is words grew so =
    let (s, split, same) = split_at seats k m is in
    let rest = drop (k + 1) seats in
    more_texts texts new text (map entry_words (member_entries (k + 1) rest)) grew
    ∙ ap (λ (t : List ℕ). map string_bytes texts ++ (t ∷ map entry_words (member_entries (k + 1) rest))) (words ∙ ap (λ (x : Member). entry_words (member_entry k x)) (sym same))
    ∙ ap (λ (es : List ReplayEntry). map string_bytes texts ++ map entry_words es) (sym (first_entry k s rest))
    ∙ ap (λ (ss : List Seat). map string_bytes texts ++ map entry_words (member_entries k ss)) (sym split)
    ∙ so

pub worded_all : (seats : List Seat) (k : ℕ) (texts : List (String Global)) → length seats ≤ k → Worded seats k texts → map string_bytes texts ≡ words_of_members seats
worded_all seats k texts le so =
    sym (ap (λ (ss : List Seat). map string_bytes texts ++ map entry_words (member_entries k ss)) (nobody_left seats k le)
    ∙ ap (λ (es : List ReplayEntry). map string_bytes texts ++ map entry_words es) (no_entry k)
    ∙ append-nil (map string_bytes texts))
    ∙ so
