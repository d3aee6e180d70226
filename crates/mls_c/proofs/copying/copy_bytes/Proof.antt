-- `copy_bytes` takes the value out of the handle, lets `copy_out` copy it, and puts it back.
use Rattle.std.proofs.Common.{◌≡◌, [], ◌∷◌, length, refl, ap, subst, w32}
use base.Logic.{id⊢}
use base.Fml.{ftrue, flft}
use mir.Syntax.{named}
use mir.Val.{vint}
use contract.Monad.{fact}
use contract.Running.{tables}
use types.Kit.{‵, raw, ◌⊛◌, some, later, ◌$◌, ◌∵◌, !, qed, by, move, keep, drop, use1, split, split3, join, pick, await, fsplit, fjoin, feq_l, rewrite}
use types.Run.{addr, from, hop, enter, of_opd, stop, fld, no_more, and_then, returns}
use types.ByLocal.{look_in_at, alloc_all, pass_all, free_all, look_at, get, get_in, sets, lands_as}
use types.Part.{agg, sub, whole}
use denote.Builtin.{unit, u8, u32}
use denote.Exit.{yes}
use denote.Laws.{Is, Typed}
use denote.Plain.{uint_Makes}
use denote.RattleType.{RattleType, owns}
use denote.RawPtr.{RawPtr, ptr_val, rawptr_vals, rawptr_Tells, rawptr_Lawful, rawptr_Makes}
use denote.Signature.{plain}
use denote.Slice.{MutSlice, slice_val, mut_slice_vals, mut_slice_Tells}
use denote.Steps.{nothing, heard, owned, only}
use denote.Triple.Call.{calls_at}
use denote.Triple.Clauses.{Lasts, lasts}
use denote.Triple.Spec.{triple_of}
use denote.Triple.Table.{framed}
use denote.Triple.Walked.{Stays, walk_of, stay_dropped, Goes-dropped, gave_slice, Goes-gave_slice}
use Rattle.std.proofs.raw_atomic.Walks.{proved, leaves}
use Rattle.mls_calls.specs.Calls.{Copies}
use Rattle.mls_c.specs.Memory.{IfNull, held_at}
use Rattle.mls_calls.specs.Shown.{shown}
use Rattle.mls_calls.specs.declared.copying.CopyOutcome.{CopyOutcome as CopyValue}
use Rattle.mls_calls.specs.declared.held.Held.{Held}
use Rattle.mls_calls.specs.declared.held.Held.TheVariants.{Nothing}
use Rattle.mls_calls.specs.contracts.held.Held as held
use Rattle.mls_calls.proofs.held.Held.TheLaws as held_laws
use Rattle.mls_calls.specs.contracts.copying.CopyOutcome as copy_outcome
use Rattle.mls_calls.proofs.copying.CopyOutcome.TheLaws as copy_outcome_laws
use Rattle.mls_c.proofs.Rows.{typed, comes, holds}
use Rattle.mls_c.proofs.Apart.{copy_apart, if_null}
use Rattle.mls_c.specs.contracts.pointer.nothing as none
use Rattle.mls_c.proofs.pointer.nothing.Met as none_thm
use Rattle.mls_c.specs.contracts.pointer.swap_held as swap_held
use Rattle.mls_c.proofs.pointer.swap_held.Met as swap_held_thm
use Rattle.mls_c.specs.contracts.pointer.let_go as lets
use Rattle.mls_c.proofs.pointer.let_go.Met as lets_thm
use Rattle.mls_calls.specs.contracts.copy_out as out
use Rattle.mls_calls.proofs.copy_out.Met as out_thm
use Rattle.mls_c.specs.contracts.copying.copy_bytes as f
use Rattle.mls_c.proofs.copying.copy_bytes.Statement.{statement}
use Rattle.mls_c.proofs.copying.copy_bytes.Code as code

abbrev R : RattleType
R = held.the_row

abbrev stayed : Stays f.ended.signature.params f.ended.kept
stayed = (stay_dropped _ yes, (gave_slice (0 ∷ []) tt (plain (λ _. u8)), tt))

pub copy_bytes_spec : {M : Type 1} → statement M
copy_bytes_spec 𝓤 𝓛 𝓜 𝓡 wired =
    let H = 𝓛.H in let c = f.clauses 𝓛 𝓜.mem 𝓡.returns in let W = walk_of 𝓛 f.ended stayed c in let 𝓣 = tables 𝓤 H 𝓜 𝓡 𝓡.env in let fm = framed 𝓤 H 𝓜 𝓣 in
    proved 𝓛 f.ended stayed c 𝓜 𝓡 (Goes-dropped 𝓛 1 (plain (λ _. RawPtr)) yes (λ κs x w. refl), (Goes-gave_slice 𝓛 1 0 tt (plain (λ _. u8)), tt))
    f.Key.name code.function (code.unfolded 𝓤 H 𝓜 𝓡 wired)
    (λ κs. (rawptr_vals, (mut_slice_vals, tt))) (λ κs. (rawptr_Tells, (mut_slice_Tells (named 0) κs.0 u8, tt))) (λ κs qs bounds args x are.
    let κ = κs.0 in let q = qs.0 in let at = args.0 in let buf = args.1.0 in let B : RattleType = MutSlice (named 0) κ u8 in let count = are.1.0.0.1.0 in
    let slice = slice_val buf.ref_ptr (length buf.now) in let ptr_ok = ((rawptr_Lawful 𝓛).typed at (ptr_val at ∷ []) refl).0 in
    let y : W.Ghost = ((κs, qs, bounds, args, (ptr_val at ∷ [], (slice ∷ [], tt))), x) in
    qed 𝓛 (((‵ (flft κ q) ⊛ ‵ ftrue) ⊛ ‵ (owns (RawPtr ∷ B ∷ []) args (ptr_val at ∷ [], (slice ∷ [], tt)))) ∷ ‵ (held_at at x) ∷ []) ∵
    split ! $ split ! $ move ! (2 ∷ []) $ fsplit ! $ drop ! $ fsplit ! $ keep ! (0 ∷ 2 ∷ 4 ∷ []) $
    -- [the buffer; the token; the handle]
    enter ! 𝓣.C 𝓣.Λ code.function (ptr_val at ∷ slice ∷ []) (W.post y) $ alloc_all ! (λ l. pass_all ! refl (ptr_ok, ((tt, (tt, (record { fits = count }, tt))), tt)) $
    let Nones = triple_of 𝓛 none.signature (none.spec 𝓛 𝓜.mem 𝓡.returns) in let z₁ : Nones.Ghost = ((tt, tt, tt, tt, tt), tt) in
    nothing ! $ nothing ! $ join ! $ nothing ! $ move ! (1 ∷ 0 ∷ []) $ join ! $ use1 𝓛 (raw (Nones.pre z₁)) (id⊢ 𝓤 _) $
    calls_at ! fm Nones (none_thm.met 𝓤 𝓛 𝓜 𝓡 (code.calls-mls_c::pointer::nothing 𝓡.env wired)) z₁ (no_more !) (λ v₁. comes ! tt none.ended (none.clauses 𝓛 𝓜.mem 𝓡.returns) z₁ v₁ (λ x₀ ws₁. move ! (1 ∷ []) $
    use1 𝓛 (raw (fact 𝓤 (x₀ ≡ Nothing))) (id⊢ 𝓤 _) $ heard ! (x₀ ≡ Nothing) (λ is₁. typed R (held_laws.the_row_laws.lawful 𝓛) ! x₀ v₁ (λ ok₁. lands_as ! refl refl ok₁.0 $
    -- [nothing; the buffer; the token; the handle]
    let Swaps = triple_of 𝓛 swap_held.signature (swap_held.spec 𝓛 𝓜.mem 𝓡.returns) in let swaps = swap_held_thm.met 𝓤 𝓛 𝓜 𝓡 (code.calls-mls_c::pointer::swap_held 𝓡.env wired) in
    let z₂ : Swaps.Ghost = ((tt, tt, tt, (at, (x₀, tt)), (ptr_val at ∷ [], (v₁ ∷ [], tt))), x) in
    nothing ! $ move ! (1 ∷ 0 ∷ []) $ fjoin ! $ owned ! RawPtr (Is RawPtr) (rawptr_Makes 𝓛) at (ptr_val at ∷ []) refl $ fjoin ! $ nothing ! $ join ! $ move ! (3 ∷ []) $ holds ! (IfNull at (x₀ ≡ Nothing)) (if_null at is₁) $ join ! $ move ! (1 ∷ 0 ∷ []) $ join ! $ use1 𝓛 (raw (Swaps.pre z₂)) (id⊢ 𝓤 _) $
    calls_at ! fm Swaps swaps z₂ (and_then ! (get ! refl) (and_then ! (get ! refl) (no_more !))) (λ v₂. comes ! tt swap_held.ended (swap_held.clauses 𝓛 𝓜.mem 𝓡.returns) z₂ v₂ (λ h₀ ws₂. move ! (1 ∷ []) $
    use1 𝓛 (raw (fact 𝓤 (h₀ ≡ x)) ⊛ raw (fact 𝓤 (IfNull at (x ≡ Nothing))) ⊛ ‵ (held_at at x₀)) (id⊢ 𝓤 _) $ split3 ! $ heard ! (h₀ ≡ x) (λ same. heard ! (IfNull at (x ≡ Nothing)) (λ was. move ! (1 ∷ []) $
    rewrite ! 0 (λ (k : Held). ‵ (R.own_val k (v₂ ∷ []))) same refl $ typed R (held_laws.the_row_laws.lawful 𝓛) ! x v₂ (λ ok₂. lands_as ! refl refl ok₂.0 $
    -- [the value; the handle; the buffer; the token]
    sets ! (of_opd ! (get ! refl)) refl ok₂.0 $ sets ! (addr ! (from ! (fld ! refl (hop ! (look_in_at ! 2 (sub ! 0 refl (whole !))) (stop !))))) refl (tt, tt) $ sets ! (agg ! (and_then ! (get ! refl) (and_then ! (get_in ! (fld ! refl (stop !)) (sub ! 1 refl (whole !))) (no_more !)))) refl (tt, (tt, (record { fits = count }, tt))) $
    let Outs = triple_of 𝓛 out.signature (out.spec 𝓛 𝓜.mem 𝓡.returns) in
    let z₃ : Outs.Ghost = (((κ, tt), (q, tt), tt, (x, (buf, tt)), (v₂ ∷ [], (slice ∷ [], tt))), tt) in
    move ! (2 ∷ []) $ nothing ! $ move ! (1 ∷ 0 ∷ []) $ fjoin ! $ move ! (1 ∷ 0 ∷ []) $ fjoin ! $ nothing ! $ move ! (3 ∷ 0 ∷ []) $ join ! $ join ! $ nothing ! $ move ! (1 ∷ 0 ∷ []) $ join ! $ use1 𝓛 (raw (Outs.pre z₃)) (id⊢ 𝓤 _) $
    calls_at ! fm Outs (out_thm.met 𝓤 𝓛 𝓜 𝓡 (code.calls-mls_calls::copy_out 𝓡.env wired)) z₃ (and_then ! (get ! refl) (and_then ! (get ! refl) (no_more !))) (λ v₃.
    use1 𝓛 (later (some (λ (d : CopyValue). ((‵ (flft κ q) ⊛ ‵ ftrue) ⊛ ‵ (copy_outcome.the_row.own_val d (v₃ ∷ []))) ⊛ some (λ (ws : Lasts out.ended (κ, tt) (x, (buf, tt))). ‵ (lasts out.ended (κ, tt) (x, (buf, tt)) ws) ⊛ raw (fact 𝓤 (d.held ≡ x)) ⊛ raw (fact 𝓤 (Copies (shown x) buf.now ws.1.0 d.answer)))))) (id⊢ 𝓤 _) $
    await ! tt $ pick ! (λ d. split ! $ split ! $ split ! $ move ! (1 ∷ []) $ drop ! $ move ! (2 ∷ []) $ pick ! (λ ws. split3 ! $ move ! (1 ∷ 2 ∷ []) $ heard ! (d.held ≡ x) (λ kept. heard ! (Copies (shown x) buf.now ws.1.0 d.answer) (λ copies.
    -- [the last value; the token; what is left; the handle]
    fsplit ! $ drop ! $ fsplit ! $ fsplit ! $ fsplit ! $ move ! (1 ∷ []) $ feq_l ! (λ long. fjoin ! $ move ! (1 ∷ []) $ drop ! $ move ! (2 ∷ []) $
    -- [what is left; the last value; the token; the handle]
    typed copy_outcome.the_row (copy_outcome_laws.the_row_laws.lawful 𝓛) ! d v₃ (λ ok₃. copy_apart ! d (v₃ ∷ []) (λ u is₃ good low. lands_as ! (ap only is₃) refl ((subst (Typed copy_outcome.the_row.mir) is₃ ok₃).0) $
    rewrite ! 0 (λ (k : Held). ‵ (R.own_val k (u ∷ []))) kept refl $
    sets ! (of_opd ! (get_in ! (fld ! refl (stop !)) (sub ! 0 refl (whole !)))) refl good $ sets ! (of_opd ! (get_in ! (fld ! refl (stop !)) (sub ! 1 refl (whole !)))) refl (tt, record { fits = low }) $
    sets ! (of_opd ! (get ! refl)) refl good $
    let z₄ : Swaps.Ghost = ((tt, tt, tt, (at, (x, tt)), (ptr_val at ∷ [], (u ∷ [], tt))), x₀) in
    nothing ! $ move ! (1 ∷ 0 ∷ []) $ fjoin ! $ owned ! RawPtr (Is RawPtr) (rawptr_Makes 𝓛) at (ptr_val at ∷ []) refl $ fjoin ! $ nothing ! $ join ! $ move ! (3 ∷ []) $ holds ! (IfNull at (x ≡ Nothing)) was $ join ! $ move ! (1 ∷ 0 ∷ []) $ join ! $ use1 𝓛 (raw (Swaps.pre z₄)) (id⊢ 𝓤 _) $
    calls_at ! fm Swaps swaps z₄ (and_then ! (get ! refl) (and_then ! (get ! refl) (no_more !))) (λ v₄. comes ! tt swap_held.ended (swap_held.clauses 𝓛 𝓜.mem 𝓡.returns) z₄ v₄ (λ h₁ ws₄. move ! (1 ∷ []) $
    use1 𝓛 (raw (fact 𝓤 (h₁ ≡ x₀)) ⊛ raw (fact 𝓤 (IfNull at (x₀ ≡ Nothing))) ⊛ ‵ (held_at at x)) (id⊢ 𝓤 _) $ split3 ! $ drop ! $ drop ! $ move ! (1 ∷ []) $
    typed R (held_laws.the_row_laws.lawful 𝓛) ! h₁ v₄ (λ ok₄. lands_as ! refl refl ok₄.0 $
    let Lets = triple_of 𝓛 lets.signature (lets.spec 𝓛 𝓜.mem 𝓡.returns) in let z₅ : Lets.Ghost = ((tt, tt, tt, (h₁, tt), (v₄ ∷ [], tt)), tt) in
    nothing ! $ move ! (1 ∷ 0 ∷ []) $ fjoin ! $ nothing ! $ join ! $ nothing ! $ move ! (1 ∷ 0 ∷ []) $ join ! $ use1 𝓛 (raw (Lets.pre z₅)) (id⊢ 𝓤 _) $
    calls_at ! fm Lets (lets_thm.met 𝓤 𝓛 𝓜 𝓡 (code.calls-mls_c::pointer::let_go 𝓡.env wired)) z₅ (and_then ! (get ! refl) (no_more !)) (λ v₅. comes ! tt lets.ended (lets.clauses 𝓛 𝓜.mem 𝓡.returns) z₅ v₅ (λ u₅ ws₅. use1 𝓛 (‵ (unit.own_val u₅ (v₅ ∷ []))) (id⊢ 𝓤 _) $ feq_l ! (λ e₅. lands_as ! (ap only e₅) refl (tt, tt) $ drop ! $
    -- [the handle; the last value; the token]
    sets ! (of_opd ! (get ! refl)) refl (tt, record { fits = low }) $ returns ! (look_at ! 0 refl) $ free_all ! refl $
    holds ! (Copies (shown x) buf.now ws.1.0 d.answer) copies $
    owned ! u32 (Is u32) (uint_Makes 𝓛 w32) d.answer (vint w32 d.answer ∷ []) (refl, low) $
    -- [the answer; what it says; the handle; the last value; the token]
    move ! (3 ∷ []) $ nothing ! $ move ! (1 ∷ 0 ∷ []) $ fjoin ! $ nothing ! $ fjoin ! $ nothing ! $ move ! (5 ∷ 0 ∷ []) $ join ! $
    by ! (leaves 𝓛 f.ended stayed c y (vint w32 d.answer) d.answer (tt, (ws.1.0, tt)) (tt, (long, tt))))))))))))))))))))))))))))
