-- `run` copies the bytes, takes the value out of the handle, lets `do_call` work on it, and puts back what it leaves.
use Rattle.std.proofs.Common.{◌≡◌, ℕ, [], ◌∷◌, refl, ap, subst, w32, w64}
use base.Logic.{id⊢}
use base.Fml.{ftrue, fsep}
use mir.Val.{vint}
use contract.Monad.{fact}
use contract.Running.{tables}
use types.Kit.{‵, raw, ◌⊛◌, ◌$◌, ◌∵◌, !, qed, by, move, drop, use1, split, split3, join, fsplit, fjoin, fpack, feq_l, rewrite}
use types.Run.{enter, of_opd, stop, fld, no_more, and_then, returns}
use types.ByLocal.{alloc_all, pass_all, free_all, look_at, get, get_in, sets, lands_as}
use types.Part.{sub, whole}
use denote.Builtin.{unit, u32, u64, usize}
use denote.Exit.{yes}
use denote.Laws.{Is, Typed}
use denote.Plain.{uint_vals, uint_Tells, uint_Makes}
use denote.RattleType.{RattleType, owns}
use denote.RawPtr.{Ptr, RawPtr, ptr_val, rawptr_vals, rawptr_Tells, rawptr_Lawful, rawptr_Makes}
use denote.Signature.{plain}
use denote.Steps.{nothing, heard, owned, only}
use denote.Triple.Call.{calls_at}
use denote.Triple.Entry.{Vals}
use denote.Triple.Spec.{triple_of}
use denote.Triple.Table.{framed}
use denote.Triple.Walked.{Stays, walk_of, stay_dropped, Goes-dropped}
use Rattle.std.proofs.raw_atomic.Walks.{proved, leaves}
use Rattle.std.specs.contracts.alloc.Global as heap
use Rattle.std.proofs.alloc.Global.TheLaws as heap_laws
use Rattle.mls_c.specs.Memory.{IfNull, held_at, bytes_at, handle_put, number_put, asked_at, HasAnswered, Outcome, left_at, says, Passed}
use Rattle.mls_calls.specs.Parts.{ArePartsOf}
use Rattle.mls_calls.specs.Answers.{DoesCall}
use Rattle.mls_calls.specs.Given.{IsGiven, given_bytes}
use Rattle.mls_calls.specs.Shown.{boxed, shown}
use Rattle.std.specs.declared.option.Option.{Option}
use Rattle.mls_calls.specs.declared.held.Held.{Held}
use Rattle.mls_calls.specs.declared.held.Held.TheVariants.{Nothing}
use Rattle.mls_calls.specs.contracts.held.Held as held
use Rattle.mls_calls.proofs.held.Held.TheLaws as held_laws
use Rattle.mls_calls.specs.contracts.given.Given as given
use Rattle.mls_calls.proofs.given.Given.TheLaws as given_laws
use Rattle.mls_calls.specs.contracts.call.Call as call
use Rattle.mls_calls.proofs.call.Call.TheLaws as call_laws
use Rattle.mls_calls.specs.contracts.done.Done as done
use Rattle.mls_calls.proofs.done.Done.TheLaws as done_laws
use Rattle.mls_calls.specs.contracts.done.Parts as parts
use Rattle.mls_calls.proofs.done.Parts.TheLaws as parts_laws
use Rattle.mls_c.proofs.Rows.{typed, comes, holds}
use Rattle.mls_c.proofs.Apart.{done_apart, parts_apart, if_null, stays_null}
use Rattle.mls_c.specs.contracts.pointer.copy_at as copy_at
use Rattle.mls_c.proofs.pointer.copy_at.Met as copy_at_thm
use Rattle.mls_c.specs.contracts.pointer.nothing as none
use Rattle.mls_c.proofs.pointer.nothing.Met as none_thm
use Rattle.mls_c.specs.contracts.pointer.swap_held as swap_held
use Rattle.mls_c.proofs.pointer.swap_held.Met as swap_held_thm
use Rattle.mls_c.specs.contracts.pointer.let_go as lets
use Rattle.mls_c.proofs.pointer.let_go.Met as lets_thm
use Rattle.mls_c.specs.contracts.pointer.put_handle as puts
use Rattle.mls_c.proofs.pointer.put_handle.Met as puts_thm
use Rattle.mls_c.specs.contracts.pointer.put_number as numbers
use Rattle.mls_c.proofs.pointer.put_number.Met as numbers_thm
use Rattle.mls_calls.specs.contracts.do_call as answers
use Rattle.mls_calls.proofs.do_call.Met as answers_thm
use Rattle.mls_calls.specs.contracts.parts_of as parts_of
use Rattle.mls_calls.proofs.parts_of.Met as parts_of_thm
use Rattle.mls_c.specs.contracts.run.run as f
use Rattle.mls_c.proofs.run.run.Statement.{statement}
use Rattle.mls_c.proofs.run.run.Code as code

abbrev R : RattleType
R = held.the_row

abbrev G : RattleType
G = given.the_row

abbrev A : RattleType
A = heap.the_row

abbrev stayed : Stays f.ended.signature.params f.ended.kept
stayed = (stay_dropped _ yes, (stay_dropped _ yes, (stay_dropped _ yes, (stay_dropped _ yes, (stay_dropped _ yes, (stay_dropped _ yes, (stay_dropped _ yes, (stay_dropped _ yes, (stay_dropped _ yes, (stay_dropped _ yes, (stay_dropped _ yes, (stay_dropped _ yes, (stay_dropped _ yes, tt)))))))))))))

pub run_spec : {M : Type 1} → statement M
run_spec 𝓤 𝓛 𝓜 𝓡 wired =
    let H = 𝓛.H in let c = f.clauses 𝓛 𝓜.mem 𝓡.returns in let W = walk_of 𝓛 f.ended stayed c in let 𝓣 = tables 𝓤 H 𝓜 𝓡 𝓡.env in let fm = framed 𝓤 H 𝓜 𝓣 in
    let heap_word = heap_laws.the_told.val in let call_word = call_laws.the_told.val in
    let ptr_goes = Goes-dropped 𝓛 0 (plain (λ _. RawPtr)) yes (λ κs x w. refl) in let size_goes = Goes-dropped 𝓛 0 (plain (λ _. usize)) yes (λ κs x w. refl) in
    proved 𝓛 f.ended stayed c 𝓜 𝓡 (Goes-dropped 𝓛 0 (plain (λ _. A)) yes (λ κs x w. refl), (Goes-dropped 𝓛 0 (plain (λ _. call.the_row)) yes (λ κs x w. refl), (Goes-dropped 𝓛 0 (plain (λ _. u64)) yes (λ κs x w. refl), (ptr_goes, (ptr_goes, (size_goes, (ptr_goes, (size_goes, (ptr_goes, (size_goes, (ptr_goes, (ptr_goes, (ptr_goes, tt)))))))))))))
    f.Key.name code.function (code.unfolded 𝓤 H 𝓜 𝓡 wired)
    (λ κs. ((λ x. heap_word x ∷ []), ((λ x. call_word x ∷ []), (uint_vals w64, (rawptr_vals, (rawptr_vals, (uint_vals w64, (rawptr_vals, (uint_vals w64, (rawptr_vals, (uint_vals w64, (rawptr_vals, (rawptr_vals, (rawptr_vals, tt))))))))))))))
    (λ κs. (heap_laws.the_told.tells, (call_laws.the_told.tells, (uint_Tells w64, (rawptr_Tells, (rawptr_Tells, (uint_Tells w64, (rawptr_Tells, (uint_Tells w64, (rawptr_Tells, (uint_Tells w64, (rawptr_Tells, (rawptr_Tells, (rawptr_Tells, tt)))))))))))))) (λ κs qs bounds args asked are.
    let a = args.0 in let which = args.1.0 in let number = args.1.1.0 in let at = args.1.1.1.0 in let p = args.1.1.1.1.0 in let n = args.1.1.1.1.1.0 in let q = args.1.1.1.1.1.1.0 in let m = args.1.1.1.1.1.1.1.0 in let r = args.1.1.1.1.1.1.1.1.0 in let k = args.1.1.1.1.1.1.1.1.1.0 in let made = args.1.1.1.1.1.1.1.1.1.1.0 in let other = args.1.1.1.1.1.1.1.1.1.1.1.0 in let value = args.1.1.1.1.1.1.1.1.1.1.1.1.0 in
    let ptr_ok = λ (s : Ptr). ((rawptr_Lawful 𝓛).typed s (ptr_val s ∷ []) refl).0 in
    let heap_ok = ((heap_laws.the_row_laws.lawful 𝓛).typed a (heap_word a ∷ []) are.0).0 in let call_ok = ((call_laws.the_row_laws.lawful 𝓛).typed which (call_word which ∷ []) are.1.0).0 in
    let vals : Vals f.signature κs = (heap_word a ∷ [], (call_word which ∷ [], (vint w64 number ∷ [], (ptr_val at ∷ [], (ptr_val p ∷ [], (vint w64 n ∷ [], (ptr_val q ∷ [], (vint w64 m ∷ [], (ptr_val r ∷ [], (vint w64 k ∷ [], (ptr_val made ∷ [], (ptr_val other ∷ [], (ptr_val value ∷ [], tt))))))))))))) in
    let to : Passed = record { handle = at; first = p; first_length = n; second = q; second_length = m; third = r; third_length = k; made = made; other = other; value = value } in
    let y : W.Ghost = ((κs, qs, bounds, args, vals), asked) in
    qed 𝓛 ((‵ ftrue ⊛ ‵ (owns (A ∷ call.the_row ∷ u64 ∷ RawPtr ∷ RawPtr ∷ usize ∷ RawPtr ∷ usize ∷ RawPtr ∷ usize ∷ RawPtr ∷ RawPtr ∷ RawPtr ∷ []) args vals)) ∷ ‵ (asked_at to asked) ∷ []) ∵
    split ! $ drop ! $ fsplit ! $ move ! (1 ∷ []) $ fsplit ! $ move ! (1 ∷ []) $ drop ! $ move ! (2 ∷ []) $ fsplit ! $ move ! (1 ∷ []) $ fsplit ! $ fsplit ! $ move ! (1 ∷ []) $ fsplit ! $ move ! (3 ∷ []) $ fsplit ! $ move ! (1 ∷ []) $ fsplit ! $
    move ! (8 ∷ []) $ use1 𝓛 (‵ (A.own_val a (heap_word a ∷ [])) ⊛ ‵ (A.own_val a (heap_word a ∷ []))) ((heap_laws.the_row_copy.copies _ 𝓤 𝓛).twice a (heap_word a ∷ [])) $ split ! $ use1 𝓛 (‵ (A.own_val a (heap_word a ∷ [])) ⊛ ‵ (A.own_val a (heap_word a ∷ []))) ((heap_laws.the_row_copy.copies _ 𝓤 𝓛).twice a (heap_word a ∷ [])) $ split ! $ use1 𝓛 (‵ (A.own_val a (heap_word a ∷ [])) ⊛ ‵ (A.own_val a (heap_word a ∷ []))) ((heap_laws.the_row_copy.copies _ 𝓤 𝓛).twice a (heap_word a ∷ [])) $ split ! $ use1 𝓛 (‵ (A.own_val a (heap_word a ∷ [])) ⊛ ‵ (A.own_val a (heap_word a ∷ []))) ((heap_laws.the_row_copy.copies _ 𝓤 𝓛).twice a (heap_word a ∷ [])) $ split ! $ use1 𝓛 (‵ (A.own_val a (heap_word a ∷ [])) ⊛ ‵ (A.own_val a (heap_word a ∷ []))) ((heap_laws.the_row_copy.copies _ 𝓤 𝓛).twice a (heap_word a ∷ [])) $ split ! $
    -- [five times the allocator; the room; the bytes; the handle; the call]
    enter ! 𝓣.C 𝓣.Λ code.function (heap_word a ∷ call_word which ∷ vint w64 number ∷ ptr_val at ∷ ptr_val p ∷ vint w64 n ∷ ptr_val q ∷ vint w64 m ∷ ptr_val r ∷ vint w64 k ∷ ptr_val made ∷ ptr_val other ∷ ptr_val value ∷ []) (W.post y) $
    alloc_all ! (λ l. pass_all ! refl (heap_ok, (call_ok, ((tt, record { fits = are.1.1.0.1 }), (ptr_ok at, (ptr_ok p, ((tt, record { fits = are.1.1.1.1.1.0.1 }), (ptr_ok q, ((tt, record { fits = are.1.1.1.1.1.1.1.0.1 }), (ptr_ok r, ((tt, record { fits = are.1.1.1.1.1.1.1.1.1.0.1 }), (ptr_ok made, (ptr_ok other, (ptr_ok value, tt))))))))))))) $
    let Copies = triple_of 𝓛 copy_at.signature (copy_at.spec 𝓛 𝓜.mem 𝓡.returns) in let copies = copy_at_thm.met 𝓤 𝓛 𝓜 𝓡 (code.calls-mls_c::pointer::copy_at 𝓡.env wired) in
    let z₁ : Copies.Ghost = ((tt, tt, tt, (a, (p, (n, tt))), (heap_word a ∷ [], (ptr_val p ∷ [], (vint w64 n ∷ [], tt)))), asked.first) in
    owned ! usize (Is usize) (uint_Makes 𝓛 w64) n (vint w64 n ∷ []) (refl, are.1.1.1.1.1.0.1) $ nothing ! $ move ! (1 ∷ 0 ∷ []) $ fjoin ! $ owned ! RawPtr (Is RawPtr) (rawptr_Makes 𝓛) p (ptr_val p ∷ []) refl $ fjoin ! $ move ! (1 ∷ 0 ∷ []) $ fjoin ! $ nothing ! $ join ! $ move ! (0 ∷ 11 ∷ []) $ join ! $ use1 𝓛 (raw (Copies.pre z₁)) (id⊢ 𝓤 _) $
    calls_at ! fm Copies copies z₁ (and_then ! (get ! refl) (and_then ! (get ! refl) (and_then ! (get ! refl) (no_more !)))) (λ v₁. comes ! tt copy_at.ended (copy_at.clauses 𝓛 𝓜.mem 𝓡.returns) z₁ v₁ (λ r₁ ws₁. move ! (1 ∷ []) $
    use1 𝓛 (raw (fact 𝓤 (IsGiven p n asked.first.1 r₁.bytes)) ⊛ ‵ (bytes_at asked.first.0 p n asked.first.1)) (id⊢ 𝓤 _) $ split ! $ heard ! (IsGiven p n asked.first.1 r₁.bytes) (λ is₁. move ! (1 ∷ []) $
    typed G (given_laws.the_row_laws.lawful 𝓛) ! r₁ v₁ (λ ok₁. lands_as ! refl refl ok₁.0 $
    let z₂ : Copies.Ghost = ((tt, tt, tt, (a, (q, (m, tt))), (heap_word a ∷ [], (ptr_val q ∷ [], (vint w64 m ∷ [], tt)))), asked.second) in
    owned ! usize (Is usize) (uint_Makes 𝓛 w64) m (vint w64 m ∷ []) (refl, are.1.1.1.1.1.1.1.0.1) $ nothing ! $ move ! (1 ∷ 0 ∷ []) $ fjoin ! $ owned ! RawPtr (Is RawPtr) (rawptr_Makes 𝓛) q (ptr_val q ∷ []) refl $ fjoin ! $ move ! (3 ∷ 0 ∷ []) $ fjoin ! $ nothing ! $ join ! $ move ! (0 ∷ 10 ∷ []) $ join ! $ use1 𝓛 (raw (Copies.pre z₂)) (id⊢ 𝓤 _) $
    calls_at ! fm Copies copies z₂ (and_then ! (get ! refl) (and_then ! (get ! refl) (and_then ! (get ! refl) (no_more !)))) (λ v₂. comes ! tt copy_at.ended (copy_at.clauses 𝓛 𝓜.mem 𝓡.returns) z₂ v₂ (λ r₂ ws₂. move ! (1 ∷ []) $
    use1 𝓛 (raw (fact 𝓤 (IsGiven q m asked.second.1 r₂.bytes)) ⊛ ‵ (bytes_at asked.second.0 q m asked.second.1)) (id⊢ 𝓤 _) $ split ! $ heard ! (IsGiven q m asked.second.1 r₂.bytes) (λ is₂. move ! (1 ∷ []) $
    typed G (given_laws.the_row_laws.lawful 𝓛) ! r₂ v₂ (λ ok₂. lands_as ! refl refl ok₂.0 $
    let z₃ : Copies.Ghost = ((tt, tt, tt, (a, (r, (k, tt))), (heap_word a ∷ [], (ptr_val r ∷ [], (vint w64 k ∷ [], tt)))), asked.third) in
    owned ! usize (Is usize) (uint_Makes 𝓛 w64) k (vint w64 k ∷ []) (refl, are.1.1.1.1.1.1.1.1.1.0.1) $ nothing ! $ move ! (1 ∷ 0 ∷ []) $ fjoin ! $ owned ! RawPtr (Is RawPtr) (rawptr_Makes 𝓛) r (ptr_val r ∷ []) refl $ fjoin ! $ move ! (5 ∷ 0 ∷ []) $ fjoin ! $ nothing ! $ join ! $ move ! (0 ∷ 11 ∷ []) $ join ! $ use1 𝓛 (raw (Copies.pre z₃)) (id⊢ 𝓤 _) $
    calls_at ! fm Copies copies z₃ (and_then ! (get ! refl) (and_then ! (get ! refl) (and_then ! (get ! refl) (no_more !)))) (λ v₃. comes ! tt copy_at.ended (copy_at.clauses 𝓛 𝓜.mem 𝓡.returns) z₃ v₃ (λ r₃ ws₃. move ! (1 ∷ []) $
    use1 𝓛 (raw (fact 𝓤 (IsGiven r k asked.third.1 r₃.bytes)) ⊛ ‵ (bytes_at asked.third.0 r k asked.third.1)) (id⊢ 𝓤 _) $ split ! $ heard ! (IsGiven r k asked.third.1 r₃.bytes) (λ is₃. move ! (1 ∷ []) $
    typed G (given_laws.the_row_laws.lawful 𝓛) ! r₃ v₃ (λ ok₃. lands_as ! refl refl ok₃.0 $
    -- what the handle holds is taken out
    let Nones = triple_of 𝓛 none.signature (none.spec 𝓛 𝓜.mem 𝓡.returns) in let z₄ : Nones.Ghost = ((tt, tt, tt, tt, tt), tt) in
    nothing ! $ nothing ! $ join ! $ nothing ! $ move ! (1 ∷ 0 ∷ []) $ join ! $ use1 𝓛 (raw (Nones.pre z₄)) (id⊢ 𝓤 _) $
    calls_at ! fm Nones (none_thm.met 𝓤 𝓛 𝓜 𝓡 (code.calls-mls_c::pointer::nothing 𝓡.env wired)) z₄ (no_more !) (λ v₄. comes ! tt none.ended (none.clauses 𝓛 𝓜.mem 𝓡.returns) z₄ v₄ (λ x₀ ws₄. move ! (1 ∷ []) $
    use1 𝓛 (raw (fact 𝓤 (x₀ ≡ Nothing))) (id⊢ 𝓤 _) $ heard ! (x₀ ≡ Nothing) (λ is₄. typed R (held_laws.the_row_laws.lawful 𝓛) ! x₀ v₄ (λ ok₄. lands_as ! refl refl ok₄.0 $
    let Swaps = triple_of 𝓛 swap_held.signature (swap_held.spec 𝓛 𝓜.mem 𝓡.returns) in let swaps = swap_held_thm.met 𝓤 𝓛 𝓜 𝓡 (code.calls-mls_c::pointer::swap_held 𝓡.env wired) in
    let z₅ : Swaps.Ghost = ((tt, tt, tt, (at, (x₀, tt)), (ptr_val at ∷ [], (v₄ ∷ [], tt))), asked.held) in
    nothing ! $ move ! (1 ∷ 0 ∷ []) $ fjoin ! $ owned ! RawPtr (Is RawPtr) (rawptr_Makes 𝓛) at (ptr_val at ∷ []) refl $ fjoin ! $ nothing ! $ join ! $ move ! (13 ∷ []) $ holds ! (IfNull at (x₀ ≡ Nothing)) (if_null at is₄) $ join ! $ move ! (1 ∷ 0 ∷ []) $ join ! $ use1 𝓛 (raw (Swaps.pre z₅)) (id⊢ 𝓤 _) $
    calls_at ! fm Swaps swaps z₅ (and_then ! (get ! refl) (and_then ! (get ! refl) (no_more !))) (λ v₅. comes ! tt swap_held.ended (swap_held.clauses 𝓛 𝓜.mem 𝓡.returns) z₅ v₅ (λ h₀ ws₅. move ! (1 ∷ []) $
    use1 𝓛 (raw (fact 𝓤 (h₀ ≡ asked.held)) ⊛ raw (fact 𝓤 (IfNull at (asked.held ≡ Nothing))) ⊛ ‵ (held_at at x₀)) (id⊢ 𝓤 _) $ split3 ! $ heard ! (h₀ ≡ asked.held) (λ same. heard ! (IfNull at (asked.held ≡ Nothing)) (λ was. move ! (1 ∷ []) $
    rewrite ! 0 (λ (x : Held). ‵ (R.own_val x (v₅ ∷ []))) same refl $ typed R (held_laws.the_row_laws.lawful 𝓛) ! asked.held v₅ (λ ok₅. lands_as ! refl refl ok₅.0 $
    sets ! (of_opd ! (get ! refl)) refl ok₅.0 $ sets ! (of_opd ! (get ! refl)) refl ok₁.0 $ sets ! (of_opd ! (get ! refl)) refl ok₂.0 $ sets ! (of_opd ! (get ! refl)) refl ok₃.0 $
    let Says = triple_of 𝓛 answers.signature (answers.spec 𝓛 𝓜.mem 𝓡.returns) in
    let z₆ : Says.Ghost = ((tt, tt, tt, (a, (which, (number, (asked.held, (r₁, (r₂, (r₃, tt))))))), (heap_word a ∷ [], (call_word which ∷ [], (vint w64 number ∷ [], (v₅ ∷ [], (v₁ ∷ [], (v₂ ∷ [], (v₃ ∷ [], tt)))))))), tt) in
    move ! (2 ∷ []) $ nothing ! $ move ! (1 ∷ 0 ∷ []) $ fjoin ! $ move ! (4 ∷ 0 ∷ []) $ fjoin ! $ move ! (5 ∷ 0 ∷ []) $ fjoin ! $ move ! (1 ∷ 0 ∷ []) $ fjoin ! $ owned ! u64 (Is u64) (uint_Makes 𝓛 w64) number (vint w64 number ∷ []) (refl, are.1.1.0.1) $ fjoin ! $ move ! (11 ∷ 0 ∷ []) $ fjoin ! $ move ! (5 ∷ 0 ∷ []) $ fjoin ! $ nothing ! $ join ! $ nothing ! $ move ! (1 ∷ 0 ∷ []) $ join ! $ use1 𝓛 (raw (Says.pre z₆)) (id⊢ 𝓤 _) $
    calls_at ! fm Says (answers_thm.met 𝓤 𝓛 𝓜 𝓡 (code.calls-mls_calls::do_call 𝓡.env wired)) z₆ (and_then ! (get ! refl) (and_then ! (get ! refl) (and_then ! (get ! refl) (and_then ! (get ! refl) (and_then ! (get ! refl) (and_then ! (get ! refl) (and_then ! (get ! refl) (no_more !)))))))) (λ v₆. comes ! tt answers.ended (answers.clauses 𝓛 𝓜.mem 𝓡.returns) z₆ v₆ (λ d ws₆. move ! (1 ∷ []) $
    use1 𝓛 (raw (fact 𝓤 (DoesCall which number (shown asked.held) (given_bytes r₁.bytes) (given_bytes r₂.bytes) (given_bytes r₃.bytes) d)) ⊛ raw (fact 𝓤 (asked.held ≡ Nothing → d.held ≡ Nothing))) (id⊢ 𝓤 _) $ split ! $ heard ! (DoesCall which number (shown asked.held) (given_bytes r₁.bytes) (given_bytes r₂.bytes) (given_bytes r₃.bytes) d) (λ does. heard ! (asked.held ≡ Nothing → d.held ≡ Nothing) (λ stays.
    typed done.the_row (done_laws.the_row_laws.lawful 𝓛) ! d v₆ (λ ok₆. done_apart ! d (v₆ ∷ []) (λ u₁ u₂ is₆ good₁ good₂. lands_as ! (ap only is₆) refl ((subst (Typed done.the_row.mir) is₆ ok₆).0) $
    sets ! (of_opd ! (get_in ! (fld ! refl (stop !)) (sub ! 0 refl (whole !)))) refl good₁ $ sets ! (of_opd ! (get_in ! (fld ! refl (stop !)) (sub ! 1 refl (whole !)))) refl good₂ $
    -- it goes back
    sets ! (of_opd ! (get ! refl)) refl good₁ $
    let z₇ : Swaps.Ghost = ((tt, tt, tt, (at, (d.held, tt)), (ptr_val at ∷ [], (u₁ ∷ [], tt))), x₀) in
    move ! (0 ∷ []) $ nothing ! $ move ! (1 ∷ 0 ∷ []) $ fjoin ! $ owned ! RawPtr (Is RawPtr) (rawptr_Makes 𝓛) at (ptr_val at ∷ []) refl $ fjoin ! $ nothing ! $ join ! $ move ! (2 ∷ []) $ holds ! (IfNull at (d.held ≡ Nothing)) (stays_null at was stays) $ join ! $ move ! (1 ∷ 0 ∷ []) $ join ! $ use1 𝓛 (raw (Swaps.pre z₇)) (id⊢ 𝓤 _) $
    calls_at ! fm Swaps swaps z₇ (and_then ! (get ! refl) (and_then ! (get ! refl) (no_more !))) (λ v₇. comes ! tt swap_held.ended (swap_held.clauses 𝓛 𝓜.mem 𝓡.returns) z₇ v₇ (λ h₁ ws₇. move ! (1 ∷ []) $
    use1 𝓛 (raw (fact 𝓤 (h₁ ≡ x₀)) ⊛ raw (fact 𝓤 (IfNull at (x₀ ≡ Nothing))) ⊛ ‵ (held_at at d.held)) (id⊢ 𝓤 _) $ split3 ! $ drop ! $ drop ! $ move ! (1 ∷ []) $
    typed R (held_laws.the_row_laws.lawful 𝓛) ! h₁ v₇ (λ ok₇. lands_as ! refl refl ok₇.0 $
    let Lets = triple_of 𝓛 lets.signature (lets.spec 𝓛 𝓜.mem 𝓡.returns) in let z₈ : Lets.Ghost = ((tt, tt, tt, (h₁, tt), (v₇ ∷ [], tt)), tt) in
    nothing ! $ move ! (1 ∷ 0 ∷ []) $ fjoin ! $ nothing ! $ join ! $ nothing ! $ move ! (1 ∷ 0 ∷ []) $ join ! $ use1 𝓛 (raw (Lets.pre z₈)) (id⊢ 𝓤 _) $
    calls_at ! fm Lets (lets_thm.met 𝓤 𝓛 𝓜 𝓡 (code.calls-mls_c::pointer::let_go 𝓡.env wired)) z₈ (and_then ! (get ! refl) (no_more !)) (λ v₈. comes ! tt lets.ended (lets.clauses 𝓛 𝓜.mem 𝓡.returns) z₈ v₈ (λ u₈ ws₈. use1 𝓛 (‵ (unit.own_val u₈ (v₈ ∷ []))) (id⊢ 𝓤 _) $ feq_l ! (λ e₈. lands_as ! (ap only e₈) refl (tt, tt) $
    drop ! $
    -- what was made is written
    sets ! (of_opd ! (get ! refl)) refl good₂ $
    let Partings = triple_of 𝓛 parts_of.signature (parts_of.spec 𝓛 𝓜.mem 𝓡.returns) in let z₉ : Partings.Ghost = ((tt, tt, tt, (d.outcome, tt), (u₂ ∷ [], tt)), tt) in
    move ! (1 ∷ []) $ nothing ! $ move ! (1 ∷ 0 ∷ []) $ fjoin ! $ nothing ! $ join ! $ nothing ! $ move ! (1 ∷ 0 ∷ []) $ join ! $ use1 𝓛 (raw (Partings.pre z₉)) (id⊢ 𝓤 _) $
    calls_at ! fm Partings (parts_of_thm.met 𝓤 𝓛 𝓜 𝓡 (code.calls-mls_calls::parts_of 𝓡.env wired)) z₉ (and_then ! (get ! refl) (no_more !)) (λ v₉. comes ! tt parts_of.ended (parts_of.clauses 𝓛 𝓜.mem 𝓡.returns) z₉ v₉ (λ g ws₉. move ! (1 ∷ []) $
    use1 𝓛 (raw (fact 𝓤 (ArePartsOf d.outcome g))) (id⊢ 𝓤 _) $ heard ! (ArePartsOf d.outcome g) (λ parts₉.
    typed parts.the_row (parts_laws.the_row_laws.lawful 𝓛) ! g v₉ (λ ok₉. parts_apart ! g (v₉ ∷ []) (λ w₁ w₂ is₉ good₃ good₄ low₁ low₂. lands_as ! (ap only is₉) refl ((subst (Typed parts.the_row.mir) is₉ ok₉).0) $
    sets ! (of_opd ! (get_in ! (fld ! refl (stop !)) (sub ! 0 refl (whole !)))) refl good₃ $ sets ! (of_opd ! (get_in ! (fld ! refl (stop !)) (sub ! 1 refl (whole !)))) refl good₄ $
    sets ! (of_opd ! (get_in ! (fld ! refl (stop !)) (sub ! 2 refl (whole !)))) refl (tt, record { fits = low₁ }) $ sets ! (of_opd ! (get_in ! (fld ! refl (stop !)) (sub ! 3 refl (whole !)))) refl (tt, record { fits = low₂ }) $
    let Puts = triple_of 𝓛 puts.signature (puts.spec 𝓛 𝓜.mem 𝓡.returns) in let puts₀ = puts_thm.met 𝓤 𝓛 𝓜 𝓡 (code.calls-mls_c::pointer::put_handle 𝓡.env wired) in
    sets ! (of_opd ! (get ! refl)) refl good₃ $
    let z₁₀ : Puts.Ghost = ((tt, tt, tt, (a, (made, (g.made, tt))), (heap_word a ∷ [], (ptr_val made ∷ [], (w₁ ∷ [], tt)))), tt) in
    move ! (0 ∷ []) $ nothing ! $ move ! (1 ∷ 0 ∷ []) $ fjoin ! $ owned ! RawPtr (Is RawPtr) (rawptr_Makes 𝓛) made (ptr_val made ∷ []) refl $ fjoin ! $ move ! (6 ∷ 0 ∷ []) $ fjoin ! $ nothing ! $ join ! $ move ! (0 ∷ 9 ∷ []) $ join ! $ use1 𝓛 (raw (Puts.pre z₁₀)) (id⊢ 𝓤 _) $
    calls_at ! fm Puts (puts₀) z₁₀ (and_then ! (get ! refl) (and_then ! (get ! refl) (and_then ! (get ! refl) (no_more !)))) (λ v₁₀. comes ! tt puts.ended (puts.clauses 𝓛 𝓜.mem 𝓡.returns) z₁₀ v₁₀ (λ u₁₀ ws₁₀. use1 𝓛 (‵ (unit.own_val u₁₀ (v₁₀ ∷ []))) (id⊢ 𝓤 _) $ feq_l ! (λ e₁₀. lands_as ! (ap only e₁₀) refl (tt, tt) $
    use1 𝓛 (‵ (handle_put made (boxed g.made))) (id⊢ 𝓤 _) $ rewrite ! 0 (λ (x : Option Held). ‵ (handle_put made x)) parts₉.0 refl $
    sets ! (of_opd ! (get ! refl)) refl good₄ $
    let z₁₁ : Puts.Ghost = ((tt, tt, tt, (a, (other, (g.other, tt))), (heap_word a ∷ [], (ptr_val other ∷ [], (w₂ ∷ [], tt)))), tt) in
    move ! (1 ∷ []) $ nothing ! $ move ! (1 ∷ 0 ∷ []) $ fjoin ! $ owned ! RawPtr (Is RawPtr) (rawptr_Makes 𝓛) other (ptr_val other ∷ []) refl $ fjoin ! $ move ! (6 ∷ 0 ∷ []) $ fjoin ! $ nothing ! $ join ! $ move ! (0 ∷ 6 ∷ []) $ join ! $ use1 𝓛 (raw (Puts.pre z₁₁)) (id⊢ 𝓤 _) $
    calls_at ! fm Puts (puts₀) z₁₁ (and_then ! (get ! refl) (and_then ! (get ! refl) (and_then ! (get ! refl) (no_more !)))) (λ v₁₁. comes ! tt puts.ended (puts.clauses 𝓛 𝓜.mem 𝓡.returns) z₁₁ v₁₁ (λ u₁₁ ws₁₁. use1 𝓛 (‵ (unit.own_val u₁₁ (v₁₁ ∷ []))) (id⊢ 𝓤 _) $ feq_l ! (λ e₁₁. lands_as ! (ap only e₁₁) refl (tt, tt) $
    use1 𝓛 (‵ (handle_put other (boxed g.other))) (id⊢ 𝓤 _) $ rewrite ! 0 (λ (x : Option Held). ‵ (handle_put other x)) parts₉.1 refl $
    let Numbers = triple_of 𝓛 numbers.signature (numbers.spec 𝓛 𝓜.mem 𝓡.returns) in
    let z₁₂ : Numbers.Ghost = ((tt, tt, tt, (value, (g.value, tt)), (ptr_val value ∷ [], (vint w64 g.value ∷ [], tt))), tt) in
    owned ! u64 (Is u64) (uint_Makes 𝓛 w64) g.value (vint w64 g.value ∷ []) (refl, low₁) $ nothing ! $ move ! (1 ∷ 0 ∷ []) $ fjoin ! $ owned ! RawPtr (Is RawPtr) (rawptr_Makes 𝓛) value (ptr_val value ∷ []) refl $ fjoin ! $ nothing ! $ join ! $ move ! (0 ∷ 7 ∷ []) $ join ! $ use1 𝓛 (raw (Numbers.pre z₁₂)) (id⊢ 𝓤 _) $
    calls_at ! fm Numbers (numbers_thm.met 𝓤 𝓛 𝓜 𝓡 (code.calls-mls_c::pointer::put_number 𝓡.env wired)) z₁₂ (and_then ! (get ! refl) (and_then ! (get ! refl) (no_more !))) (λ v₁₂. comes ! tt numbers.ended (numbers.clauses 𝓛 𝓜.mem 𝓡.returns) z₁₂ v₁₂ (λ u₁₂ ws₁₂. use1 𝓛 (‵ (unit.own_val u₁₂ (v₁₂ ∷ []))) (id⊢ 𝓤 _) $ feq_l ! (λ e₁₂. lands_as ! (ap only e₁₂) refl (tt, tt) $
    use1 𝓛 (‵ (number_put value g.value)) (id⊢ 𝓤 _) $ rewrite ! 0 (λ (x : ℕ). ‵ (number_put value x)) parts₉.2 refl $
    sets ! (of_opd ! (get ! refl)) refl (tt, record { fits = low₂ }) $ returns ! (look_at ! 0 refl) $ free_all ! refl $
    move ! (1 ∷ 0 ∷ []) $ fjoin ! $ move ! (1 ∷ 0 ∷ []) $ fjoin ! $ move ! (2 ∷ []) $ move ! (3 ∷ 0 ∷ []) $ fjoin ! $ move ! (3 ∷ 0 ∷ []) $ fjoin ! $ move ! (1 ∷ []) $ move ! (1 ∷ 0 ∷ []) $ fjoin ! $ move ! (1 ∷ 0 ∷ []) $ fjoin ! $
    nothing ! $ fpack ! (HasAnswered which number to asked g.answer (r₁.bytes, r₂.bytes, r₃.bytes, d)) (λ _. ftrue) (is₁, is₂, is₃, does, parts₉.3) $ fjoin ! $
    fpack ! Outcome (λ o. fsep (says (HasAnswered which number to asked g.answer o)) (left_at to asked o.3)) (r₁.bytes, r₂.bytes, r₃.bytes, d) $
    owned ! u32 (Is u32) (uint_Makes 𝓛 w32) g.answer (vint w32 g.answer ∷ []) (refl, low₂) $
    nothing ! $ nothing ! $ fjoin ! $ nothing ! $ fjoin ! $ nothing ! $ fjoin ! $ nothing ! $ fjoin ! $ nothing ! $ fjoin ! $ nothing ! $ fjoin ! $ nothing ! $ fjoin ! $ nothing ! $ fjoin ! $ nothing ! $ fjoin ! $ nothing ! $ fjoin ! $ nothing ! $ fjoin ! $ nothing ! $ fjoin ! $ nothing ! $ fjoin ! $ nothing ! $ by ! (leaves 𝓛 f.ended stayed c y (vint w32 g.answer) g.answer (tt, (tt, (tt, (tt, (tt, (tt, (tt, (tt, (tt, (tt, (tt, (tt, (tt, tt))))))))))))) (tt, (tt, (tt, (tt, (tt, (tt, (tt, (tt, (tt, (tt, (tt, (tt, (tt, tt)))))))))))))))))))))))))))))))))))))))))))))))))))))))))))))))
