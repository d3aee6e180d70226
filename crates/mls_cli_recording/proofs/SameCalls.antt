-- Events that stand for the same calls do the same.
use Rattle.std.proofs.Common.{◌≡◌, ℕ, Bool, List, [], ◌∷◌, Result, Ok, Err, map, refl, ap, sym, subst}
use Rattle.mls_wire.specs.Reading.{◌>>=◌}
use Rattle.mls_suite.specs.Crypto.{Crypto}
use Rattle.mls_leaf.specs.declared.extension.Extension.{Extension}
use Rattle.mls_model.specs.declared.event.Source.{Source}
use Rattle.mls_model.specs.declared.event.WorldItem.{WorldItem}
use Rattle.mls_model.specs.declared.event.Event.{Event}
use Rattle.mls_model.specs.declared.event.Event.TheVariants as event
use Rattle.mls_model.specs.declared.event.Reply.{Reply}
use Rattle.mls_model.specs.WorldCalls.{candidate_answer, create_answer, propose_add_answer, propose_update_answer, propose_remove_answer, propose_extensions_answer, commit_answer, drop_answer, deliver_answer, join_answer}
use Rattle.mls_model.specs.Join.{join_verdict}
use Rattle.mls_model.specs.World.{World, entrant_at, bytes_of}
use Rattle.mls_model.specs.Run.{answer, step, run, replies}
use Rattle.mls_cli_recording.specs.Calls.{Call, source_view, extension_view, item_view, call_view}
use Rattle.mls_cli_recording.specs.Calls as call
use Rattle.mls_cli_recording.specs.CallLaws.{SameRun, SameReplies}
use Rattle.mls_cli_recording.proofs.SameSources.{same_bytes, same_extensions, same_package, same_items, same_made}

-- ---- the calls that have sources

same_add : (c : Crypto) (w : World) (k : ℕ) (s t : Source) → source_view s ≡ source_view t → propose_add_answer c w k s ≡ propose_add_answer c w k t
unfolding propose_add_answer
same_add c w k s t e = rw (same_package w s t e) refl

same_commit : (c : Crypto) (w : World) (k : ℕ) (xs ys : List WorldItem) (path : Bool) (seed : List ℕ) → map item_view xs ≡ map item_view ys
    → commit_answer c w k xs path seed ≡ commit_answer c w k ys path seed
unfolding commit_answer
same_commit c w k xs ys path seed e = rw (same_items w xs ys e) refl

same_delivery : (c : Crypto) (w : World) (k : ℕ) (s t : Source) → source_view s ≡ source_view t → deliver_answer c w k s ≡ deliver_answer c w k t
unfolding deliver_answer
same_delivery c w k s t e = rw (same_bytes w s t e) refl

bind_same : {A B : Type 0} (r : Result A ℕ) (f g : A → Result B ℕ) → ((x : A) → f x ≡ g x) → (r >>= f) ≡ (r >>= g)
bind_same (Ok x) f g h = h x
bind_same (Err n) f g h = refl

same_join : (c : Crypto) (w : World) (n : ℕ) (s t : Source) → source_view s ≡ source_view t → join_answer c w n s ≡ join_answer c w n t
unfolding join_answer
same_join c w n s t p =
    bind_same (entrant_at w n) _ _ (λ e. rw (same_bytes w s t p)
    (bind_same (bytes_of w t) _ _ (λ bytes. bind_same (join_verdict c e.candidate bytes) _ _ (λ j. rw (same_made w.commits s t e.candidate p) refl))))

-- ---- all calls

-- it is what each event of that call answers
abbrev IsAnswer : Crypto → World → Result (Reply × World) ℕ → Call → Type 0
IsAnswer c w r (call.candidate identity seed) = r ≡ candidate_answer c w identity seed
IsAnswer c w r (call.create n group seed) = r ≡ create_answer c w n group seed
IsAnswer c w r (call.propose_add k s) = (x : Source) → source_view x ≡ s → r ≡ propose_add_answer c w k x
IsAnswer c w r (call.propose_update k seed) = r ≡ propose_update_answer c w k seed
IsAnswer c w r (call.propose_remove k leaf) = r ≡ propose_remove_answer c w k leaf
IsAnswer c w r (call.propose_extensions k list) = (xs : List Extension) → map extension_view xs ≡ list → r ≡ propose_extensions_answer c w k xs
IsAnswer c w r (call.commit k items path seed) = (xs : List WorldItem) → map item_view xs ≡ items → r ≡ commit_answer c w k xs path seed
IsAnswer c w r (call.drop_pending k) = r ≡ drop_answer w k
IsAnswer c w r (call.deliver k s) = (x : Source) → source_view x ≡ s → r ≡ deliver_answer c w k x
IsAnswer c w r (call.join n s) = (x : Source) → source_view x ≡ s → r ≡ join_answer c w n x

is_answer : (c : Crypto) (w : World) (e : Event) → IsAnswer c w (answer c w e) (call_view e)
unfolding answer
is_answer c w (event.Candidate identity seed) = refl
is_answer c w (event.Create n group seed) = refl
is_answer c w (event.ProposeAdd k s) = λ x p. same_add c w k s x (sym p)
is_answer c w (event.ProposeUpdate k seed) = refl
is_answer c w (event.ProposeRemove k leaf) = refl
is_answer c w (event.ProposeExtensions k list) = λ xs p. ap (propose_extensions_answer c w k) (same_extensions list.items xs (sym p))
is_answer c w (event.Commit k items path seed) = λ xs p. same_commit c w k items.items xs path seed (sym p)
is_answer c w (event.DropPending k) = refl
is_answer c w (event.Deliver k s) = λ x p. same_delivery c w k s x (sym p)
is_answer c w (event.Join n s) = λ x p. same_join c w n s x (sym p)

of_call : (c : Crypto) (w : World) (r : Result (Reply × World) ℕ) (e : Event) → IsAnswer c w r (call_view e) → r ≡ answer c w e
unfolding answer
of_call c w r (event.Candidate identity seed) h = h
of_call c w r (event.Create n group seed) h = h
of_call c w r (event.ProposeAdd k s) h = h s refl
of_call c w r (event.ProposeUpdate k seed) h = h
of_call c w r (event.ProposeRemove k leaf) h = h
of_call c w r (event.ProposeExtensions k list) h = h list.items refl
of_call c w r (event.Commit k items path seed) h = h items.items refl
of_call c w r (event.DropPending k) h = h
of_call c w r (event.Deliver k s) h = h s refl
of_call c w r (event.Join n s) h = h s refl

same_answer : (c : Crypto) (w : World) (e f : Event) → call_view e ≡ call_view f → answer c w e ≡ answer c w f
same_answer c w e f p = let P : Call → Type 0 = IsAnswer c w (answer c w e) in of_call c w (answer c w e) f (subst P p (is_answer c w e))

same_step : (c : Crypto) (w : World) (e f : Event) → call_view e ≡ call_view f → step c w e ≡ step c w f
unfolding step
same_step c w e f p = rw (same_answer c w e f p) refl

-- ---- runs

pub same_run : SameRun
unfolding run
same_run c w [] [] p = refl
same_run c w [] (f ∷ fs) p = absurd cc
same_run c w (e ∷ es) [] p = absurd cc
same_run c w (e ∷ es) (f ∷ fs) p =
    let one : call_view e ≡ call_view f = cc in
    let more : map call_view es ≡ map call_view fs = cc in
    rw (same_step c w e f one) (same_run c (step c w f).1 es fs more)

pub same_replies : SameReplies
unfolding replies
same_replies c w [] [] p = refl
same_replies c w [] (f ∷ fs) p = absurd cc
same_replies c w (e ∷ es) [] p = absurd cc
same_replies c w (e ∷ es) (f ∷ fs) p =
    let one : call_view e ≡ call_view f = cc in
    let more : map call_view es ≡ map call_view fs = cc in
    rw (same_step c w e f one) (ap (λ rs. (step c w f).0 ∷ rs) (same_replies c (step c w f).1 es fs more))
