-- `mls_free` passes on to `free_handle`.
use Rattle.std.proofs.Common.{[], ◌∷◌, refl, w32}
use contract.Running.{tables}
use types.Kit.{raw, ◌$◌, ◌∵◌, !, qed, by, fjoin}
use types.Run.{enter, no_more, and_then, returns}
use types.ByLocal.{alloc_all, pass_all, free_all, look_at, get, lands_as}
use denote.Builtin.{u32}
use denote.Exit.{yes}
use denote.Plain.{uint_Lawful}
use denote.RawPtr.{RawPtr, ptr_val, rawptr_vals, rawptr_Tells, rawptr_Lawful}
use denote.Signature.{plain}
use denote.Steps.{nothing}
use denote.Triple.Call.{calls_at}
use denote.Triple.Spec.{triple_of}
use denote.Triple.Table.{framed}
use denote.Triple.Walked.{Stays, walk_of, stay_dropped, Goes-dropped}
use Rattle.std.proofs.raw_atomic.Walks.{proved, leaves}
use Rattle.std.specs.contracts.alloc.Global as heap
use Rattle.std.proofs.alloc.Global.TheLaws as heap_laws
use Rattle.mls_c.proofs.Rows.{typed, comes}
use Rattle.mls_c.specs.contracts.pointer.free_handle as frees
use Rattle.mls_c.proofs.pointer.free_handle.Met as frees_thm
use Rattle.mls_c.specs.contracts.mls_free as f
use Rattle.mls_c.proofs.mls_free.Statement.{statement}
use Rattle.mls_c.proofs.mls_free.Code as code

abbrev stayed : Stays f.ended.signature.params f.ended.kept
stayed = (stay_dropped _ yes, (stay_dropped _ yes, tt))

pub mls_free_spec : {M : Type 1} → statement M
mls_free_spec 𝓤 𝓛 𝓜 𝓡 wired =
    let H = 𝓛.H in let c = f.clauses 𝓛 𝓜.mem 𝓡.returns in let W = walk_of 𝓛 f.ended stayed c in let 𝓣 = tables 𝓤 H 𝓜 𝓡 𝓡.env in let heap_word = heap_laws.the_told.val in
    proved 𝓛 f.ended stayed c 𝓜 𝓡 (Goes-dropped 𝓛 0 (plain (λ _. heap.the_row)) yes (λ κs x w. refl), (Goes-dropped 𝓛 0 (plain (λ _. RawPtr)) yes (λ κs x w. refl), tt))
    f.Key.name code.function (code.unfolded 𝓤 H 𝓜 𝓡 wired)
    (λ κs. ((λ x. heap_word x ∷ []), (rawptr_vals, tt))) (λ κs. (heap_laws.the_told.tells, (rawptr_Tells, tt))) (λ κs qs bounds args x are.
    let a = args.0 in let p = args.1.0 in let good = ((heap_laws.the_row_laws.lawful 𝓛).typed a (heap_word a ∷ []) are.0).0 in
    let Frees = triple_of 𝓛 frees.signature (frees.spec 𝓛 𝓜.mem 𝓡.returns) in let z : Frees.Ghost = ((κs, qs, bounds, args, (heap_word a ∷ [], (ptr_val p ∷ [], tt))), x) in
    qed 𝓛 (raw (Frees.pre z) ∷ []) ∵ enter ! 𝓣.C 𝓣.Λ code.function (heap_word a ∷ ptr_val p ∷ []) (W.post z) $ alloc_all ! (λ l. pass_all ! refl (good, (((rawptr_Lawful 𝓛).typed p (ptr_val p ∷ []) refl).0, tt)) $
    calls_at ! (framed 𝓤 H 𝓜 𝓣) Frees (frees_thm.met 𝓤 𝓛 𝓜 𝓡 (code.calls-mls_c::pointer::free_handle 𝓡.env wired)) z (and_then ! (get ! refl) (and_then ! (get ! refl) (no_more !))) (λ v.
    comes ! tt frees.ended (frees.clauses 𝓛 𝓜.mem 𝓡.returns) z v (λ r ws. typed u32 (uint_Lawful 𝓛 w32) ! r v (λ ok. lands_as ! refl refl ok.0 $ returns ! (look_at ! 0 refl) $ free_all ! refl $
    nothing ! $ nothing ! $ fjoin ! $ nothing ! $ fjoin ! $ nothing ! $ by ! (leaves 𝓛 f.ended stayed c z v r (tt, (tt, tt)) (tt, (tt, tt))))))))
