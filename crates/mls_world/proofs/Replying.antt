-- One more event of a run, and one more reply.
use Rattle.std.proofs.Common.{◌≡◌, ℕ, ◌<◌, ◌≤◌, ◌+◌, List, [], ◌∷◌, ◌++◌, length, take, get_or, Result, Ok, Err, append_assoc, refl, sym, ap, ◌∙◌}
use Rattle.std.proofs.lemmas.List.{take_more, take_all, append-nil}
use Rattle.std.specs.Result.{IsErr}
use Rattle.mls_suite.specs.Crypto.{Crypto}
use Rattle.mls_model.specs.declared.event.Event.{Event}
use Rattle.mls_model.specs.declared.event.Reply.{Reply}
use Rattle.mls_model.specs.Answers.{Runs}
use Rattle.mls_model.specs.Run.{step, run, replies}
use Rattle.mls_model.proofs.RunLaws.{run_in_parts, replies_in_parts}
use Rattle.mls_model.specs.World.{World}

one_more : (es : List Event) (i : ℕ) (e : Event) → i < length es → e ≡ get_or es i e → take (i + 1) es ≡ take i es ++ e ∷ []
one_more es i e l h = take_more es i e l ∙ ap (λ (x : Event). take i es ++ x ∷ []) (sym h)

one_run : (c : Crypto) (w : World) (e : Event) → run c w (e ∷ []) ≡ (step c w e).1
unfolding run
one_run c w e = refl

one_reply : (c : Crypto) (w : World) (e : Event) → replies c w (e ∷ []) ≡ (step c w e).0 ∷ []
unfolding replies
one_reply c w e = refl

run_more : (c : Crypto) (w : World) (es : List Event) (i : ℕ) (e : Event) → i < length es → e ≡ get_or es i e → run c w (take (i + 1) es) ≡ (step c (run c w (take i es)) e).1
run_more c w es i e l h = ap (run c w) (one_more es i e l h) ∙ run_in_parts c w (take i es) (e ∷ []) ∙ one_run c (run c w (take i es)) e

replies_more : (c : Crypto) (w : World) (es : List Event) (i : ℕ) (e : Event) → i < length es → e ≡ get_or es i e →
    replies c w (take (i + 1) es) ≡ replies c w (take i es) ++ (step c (run c w (take i es)) e).0 ∷ []
replies_more c w es i e l h =
    ap (replies c w) (one_more es i e l h) ∙ replies_in_parts c w (take i es) (e ∷ []) ∙ ap (λ (rs : List Reply). replies c w (take i es) ++ rs) (one_reply c (run c w (take i es)) e)

pub world_after : (c : Crypto) (first w v : World) (es : List Event) (i : ℕ) (e : Event) (reply : Reply) → w ≡ run c first (take i es) → i < length es → e ≡ get_or es i e →
    step c w e ≡ (reply, v) → v ≡ run c first (take (i + 1) es)
world_after c first w v es i e reply is l h s =
    sym (ap (λ (x : Reply × World). x.1) s) ∙ ap (λ (x : World). (step c x e).1) is ∙ sym (run_more c first es i e l h)

pub replied_after : (c : Crypto) (first w v : World) (es : List Event) (i : ℕ) (e : Event) (reply : Reply) (before now : List Reply) → w ≡ run c first (take i es) → i < length es →
    e ≡ get_or es i e → step c w e ≡ (reply, v) → now ≡ before ++ replies c first (take i es) → now ++ reply ∷ [] ≡ before ++ replies c first (take (i + 1) es)
replied_after c first w v es i e reply before now is l h s said =
    let same : reply ≡ (step c (run c first (take i es)) e).0 = sym (ap (λ (x : Reply × World). x.0) s) ∙ ap (λ (x : World). (step c x e).0) is in
    ap (λ (rs : List Reply). rs ++ reply ∷ []) said
    ∙ ap (λ (r : Reply). (before ++ replies c first (take i es)) ++ r ∷ []) same
    ∙ append_assoc before (replies c first (take i es)) ((step c (run c first (take i es)) e).0 ∷ [])
    ∙ ap (λ (rs : List Reply). before ++ rs) (sym (replies_more c first es i e l h))

-- ---- from the start, up to a place, and to the end

pub world_first : (c : Crypto) (w : World) → w ≡ run c w []
unfolding run
world_first c w = refl

pub replied_first : (c : Crypto) (w : World) (before : List Reply) → before ≡ before ++ replies c w []
unfolding replies
replied_first c w before = sym (append-nil before)

pub ran_part : {E : Type 0} (c : Crypto) (es : List Event) (first w : World) (before now : List Reply) (r : Result (Unit {0}) E) (i : ℕ) → IsErr r → i < length es → w ≡ run c first (take i es) →
    now ≡ before ++ replies c first (take i es) → Runs c es first w before now r
ran_part c es first w before now (Ok x) i failed l is said = absurd cc
ran_part c es first w before now (Err e) i failed l is said = record { count = i; fewer = l; world = is; replied = said }

pub world_last : (c : Crypto) (first w : World) (es : List Event) (i : ℕ) → w ≡ run c first (take i es) → length es ≤ i → w ≡ run c first es
world_last c first w es i is l = is ∙ ap (run c first) (take_all i es l)

pub replied_last : (c : Crypto) (first : World) (es : List Event) (i : ℕ) (before now : List Reply) → now ≡ before ++ replies c first (take i es) → length es ≤ i → now ≡ before ++ replies c first es
replied_last c first es i before now said l = said ∙ ap (λ (xs : List Event). before ++ replies c first xs) (take_all i es l)
