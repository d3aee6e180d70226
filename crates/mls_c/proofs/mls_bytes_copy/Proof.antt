-- `mls_bytes_copy` passes on to `copy_bytes`.
use Rattle.std.proofs.Common.{ℕ, [], ◌∷◌, length, refl, w32}
use base.Logic.{id⊢}
use base.Fml.{ftrue, flft}
use mir.Syntax.{named}
use contract.Monad.{fact}
use contract.Running.{tables}
use types.Kit.{‵, raw, ◌⊛◌, some, later, ◌$◌, ◌∵◌, !, qed, by, move, drop, use1, split, split3, pick, await, fsplit, fjoin, feq_l}
use types.Run.{addr, from, hop, stop, fld, enter, no_more, and_then, returns}
use types.ByLocal.{look_in_at, alloc_all, pass_all, free_all, look_at, get, get_in, sets, lands_as}
use types.Part.{agg, sub, whole}
use denote.Builtin.{u8, u32}
use denote.Exit.{yes}
use denote.Plain.{uint_Lawful}
use denote.RawPtr.{RawPtr, ptr_val, rawptr_vals, rawptr_Tells, rawptr_Lawful}
use denote.Signature.{plain}
use denote.Slice.{slice_val, mut_slice_vals, mut_slice_Tells}
use denote.Steps.{nothing}
use denote.Triple.Call.{calls_at}
use denote.Triple.Clauses.{Lasts, lasts}
use denote.Triple.Spec.{triple_of}
use denote.Triple.Table.{framed}
use denote.Triple.Walked.{Stays, walk_of, stay_dropped, Goes-dropped, gave_slice, Goes-gave_slice}
use Rattle.std.proofs.raw_atomic.Walks.{proved, leaves}
use Rattle.mls_calls.specs.Calls.{Copies}
use Rattle.mls_c.specs.Memory.{held_at}
use Rattle.mls_calls.specs.Shown.{shown}
use Rattle.mls_c.proofs.Rows.{typed}
use Rattle.mls_c.specs.contracts.copying.copy_bytes as copies
use Rattle.mls_c.proofs.copying.copy_bytes.Met as copies_thm
use Rattle.mls_c.specs.contracts.mls_bytes_copy as f
use Rattle.mls_c.proofs.mls_bytes_copy.Statement.{statement}
use Rattle.mls_c.proofs.mls_bytes_copy.Code as code

abbrev stayed : Stays f.ended.signature.params f.ended.kept
stayed = (stay_dropped _ yes, (gave_slice (0 ∷ []) tt (plain (λ _. u8)), tt))

pub mls_bytes_copy_spec : {M : Type 1} → statement M
mls_bytes_copy_spec 𝓤 𝓛 𝓜 𝓡 wired =
    let H = 𝓛.H in let c = f.clauses 𝓛 𝓜.mem 𝓡.returns in let W = walk_of 𝓛 f.ended stayed c in let 𝓣 = tables 𝓤 H 𝓜 𝓡 𝓡.env in
    proved 𝓛 f.ended stayed c 𝓜 𝓡 (Goes-dropped 𝓛 1 (plain (λ _. RawPtr)) yes (λ κs x w. refl), (Goes-gave_slice 𝓛 1 0 tt (plain (λ _. u8)), tt))
    f.Key.name code.function (code.unfolded 𝓤 H 𝓜 𝓡 wired)
    (λ κs. (rawptr_vals, (mut_slice_vals, tt))) (λ κs. (rawptr_Tells, (mut_slice_Tells (named 0) κs.0 u8, tt))) (λ κs qs bounds args x are.
    let κ = κs.0 in let q = qs.0 in let at = args.0 in let buf = args.1.0 in let count = are.1.0.0.1.0 in
    let slice = slice_val buf.ref_ptr (length buf.now) in let ptr_ok = ((rawptr_Lawful 𝓛).typed at (ptr_val at ∷ []) refl).0 in
    let y : W.Ghost = ((κs, qs, bounds, args, (ptr_val at ∷ [], (slice ∷ [], tt))), x) in
    let Outs = triple_of 𝓛 copies.signature (copies.spec 𝓛 𝓜.mem 𝓡.returns) in let z : Outs.Ghost = y in
    qed 𝓛 (raw (Outs.pre z) ∷ []) ∵ enter ! 𝓣.C 𝓣.Λ code.function (ptr_val at ∷ slice ∷ []) (W.post y) $ alloc_all ! (λ l. pass_all ! refl (ptr_ok, ((tt, (tt, (record { fits = count }, tt))), tt)) $
    sets ! (addr ! (from ! (fld ! refl (hop ! (look_in_at ! 2 (sub ! 0 refl (whole !))) (stop !))))) refl (tt, tt) $ sets ! (agg ! (and_then ! (get ! refl) (and_then ! (get_in ! (fld ! refl (stop !)) (sub ! 1 refl (whole !))) (no_more !)))) refl (tt, (tt, (record { fits = count }, tt))) $
    calls_at ! (framed 𝓤 H 𝓜 𝓣) Outs (copies_thm.met 𝓤 𝓛 𝓜 𝓡 (code.calls-mls_c::copying::copy_bytes 𝓡.env wired)) z (and_then ! (get ! refl) (and_then ! (get ! refl) (no_more !))) (λ v.
    use1 𝓛 (later (some (λ (r : ℕ). ((‵ (flft κ q) ⊛ ‵ ftrue) ⊛ ‵ (u32.own_val r (v ∷ []))) ⊛ some (λ (ws : Lasts copies.ended (κ, tt) (at, (buf, tt))). ‵ (lasts copies.ended (κ, tt) (at, (buf, tt)) ws) ⊛ raw (fact 𝓤 (Copies (shown x) buf.now ws.1.0 r)) ⊛ ‵ (held_at at x))))) (id⊢ 𝓤 _) $
    await ! tt $ pick ! (λ r. split ! $ split ! $ move ! (1 ∷ []) $ typed u32 (uint_Lawful 𝓛 w32) ! r v (λ ok. lands_as ! refl refl ok.0 $ returns ! (look_at ! 0 refl) $ free_all ! refl $
    -- [the answer; the token; what is left]
    move ! (2 ∷ []) $ pick ! (λ ws. split3 ! $ fsplit ! $ drop ! $ fsplit ! $ fsplit ! $ fsplit ! $ move ! (1 ∷ []) $ feq_l ! (λ long. fjoin ! $ move ! (1 ∷ []) $ drop ! $
    -- [the last value; what it says; the handle; the answer; the token]
    nothing ! $ move ! (1 ∷ 0 ∷ []) $ fjoin ! $ nothing ! $ fjoin ! $ move ! (4 ∷ 0 ∷ 3 ∷ 1 ∷ 2 ∷ []) $
    by ! (leaves 𝓛 f.ended stayed c y v r (tt, (ws.1.0, tt)) (tt, (long, tt))))))))))
