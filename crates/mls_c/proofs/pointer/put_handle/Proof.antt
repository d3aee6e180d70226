-- `put_handle` writes the pointer of what was made, unless it is to be written to null.
use Rattle.std.proofs.Common.{◌≡◌, List, [], ◌∷◌, ◌++◌, refl, sym, ap, subst, lit<}
use base.Fraction.{full_share}
use base.Logic.{ent, id⊢}
use base.Fml.{ftrue, fsep}
use mir.Val.{Val, vunit, vptr, vnull}
use prog.Wp.{WpFn}
use contract.Monad.{fact}
use contract.Running.{tables}
use types.Kit.{rewrite, ‵, raw, ◌⊛◌, at_ret, ◌$◌, ◌∵◌, !, qed, by, move, keep, drop, use1, use2, split, join, fsplit, fjoin, fpick, fpack, feq_i, feq_l}
use types.Run.{enter, of_opd, lit, unit_lit, bin, init, stop, fld, no_more, and_then, assigns, first, branches, skips, exec, returns, returns_within}
use types.ByLocal.{alloc_all, pass_all, free_all, look_at, get, get_in, through, sets, lands_as, env}
use types.Part.{sub, whole}
use borrow.Table.OneValue.{part_in}
use denote.Builtin.{unit}
use denote.Exit.{yes, rest}
use denote.RattleType.{owns}
use denote.Laws.{Typed}
use denote.RawPtr.{Ptr, RawPtr, block_ptr, null_ptr, ptr_val, lies_at, rawptr_Lawful, tests_null}
use denote.Signature.{plain}
use denote.Steps.{nothing, heard, only}
use denote.Triple.Call.{calls_at}
use denote.Triple.Spec.{triple_of}
use denote.Triple.Table.{framed}
use denote.Triple.Walked.{Stays, walk_of, stay_dropped, Goes-dropped}
use Rattle.std.proofs.alloc.Calls.{Goes-blank}
use Rattle.std.proofs.cell.Inside.{one}
use denote.Param.{layout}
use Rattle.std.proofs.raw_atomic.Walks.{proved_at, leaves}
use Rattle.std.specs.declared.alloc.Global.{Global}
use Rattle.std.specs.contracts.alloc.Global as heap
use Rattle.std.proofs.alloc.Global.TheLaws as heap_laws
use Rattle.std.specs.contracts.impls.GlobalAllocator.TheImpl.{ghosts}
use Rattle.mls_c.specs.Memory.{room_if}
use Rattle.mls_calls.specs.Shown.{boxed}
use Rattle.std.specs.declared.option.Option.{Option}
use Rattle.mls_calls.specs.declared.held.Held.{Held}
use Rattle.mls_c.specs.Loose.{loose_owns}
use Rattle.mls_calls.specs.contracts.held.Held as held
use Rattle.mls_c.proofs.Loosened.{loose_typed, loose_out}
use Rattle.mls_c.proofs.CallRows.{Made, made_row_laws}
use Rattle.mls_c.proofs.Rows.{by_pointer, comes}
use Rattle.mls_c.proofs.Exits.{made_blank}
use Rattle.mls_c.specs.contracts.pointer.let_made_go as lets
use Rattle.mls_c.proofs.pointer.let_made_go.Met as lets_thm
use Rattle.mls_c.specs.contracts.pointer.loose_of as of
use Rattle.mls_c.proofs.pointer.loose_of.Met as of_thm
use Rattle.mls_c.specs.contracts.pointer.put_handle as f
use Rattle.mls_c.proofs.pointer.put_handle.Statement.{statement}
use Rattle.mls_c.proofs.pointer.put_handle.Code as code

abbrev stayed : Stays f.ended.signature.params f.ended.kept
stayed = (stay_dropped _ yes, (stay_dropped _ yes, (stay_dropped _ yes, tt)))

abbrev heap_word : Global → Val
heap_word = heap_laws.the_told.val

pub put_handle_spec : {M : Type 1} → statement M
put_handle_spec 𝓤 𝓛 𝓜 𝓡 wired =
    let H = 𝓛.H in let c = f.clauses 𝓛 𝓜.mem 𝓡.returns in let W = walk_of 𝓛 f.ended stayed c in let 𝓣 = tables 𝓤 H 𝓜 𝓡 𝓡.env in let fm = framed 𝓤 H 𝓜 𝓣 in
    proved_at 𝓛 f.ended stayed c 𝓜 𝓡 (Goes-dropped 𝓛 0 (plain (λ _. heap.the_row)) yes (λ κs x w. refl), (Goes-dropped 𝓛 0 (plain (λ _. RawPtr)) yes (λ κs x w. refl), (Goes-blank 𝓛 0 (plain (λ _. Made)) yes (λ κs x w. made_blank x w), tt)))
    f.Key.name code.function (code.unfolded 𝓤 H 𝓜 𝓡 wired) (λ z are.
    let a : Global = z.0.3.0 in let x : Made.Denot = z.0.3.1.1.0 in let at_value = one (layout Made) z.0.4.1.1.0 ((made_row_laws.lawful 𝓛).typed x z.0.4.1.1.0 are.1.1.0) in let u = at_value.0 in let good = at_value.2 in
    let heap_is = heap_laws.the_told.tells a z.0.4.0 are.0 in let heap_good = ((subst (Typed heap.the_row.mir) heap_is ((heap_laws.the_row_laws.lawful 𝓛).typed a z.0.4.0 are.0))).0 in
    let Y : Ptr → List Val → List Val → List Val → W.Ghost = λ s hs us vs. ((z.0.0, z.0.1, z.0.2, (a, (s, (x, tt))), (hs, (us, (vs, tt)))), z.1) in
    let Goes : Ptr → List Val → List Val → List Val → Type 1 = λ s hs us vs. ent 𝓤 (W.pre (Y s hs us vs)) (WpFn 𝓤 H 𝓣.C 𝓣.Λ code.function (hs ++ (us ++ (vs ++ []))) (W.post (Y s hs us vs))) in
    let y : Ptr → W.Ghost = λ s. Y s (heap_word a ∷ []) (ptr_val s ∷ []) (u ∷ []) in
    subst (λ (hs : List Val). Goes z.0.3.1.0 hs z.0.4.1.0 z.0.4.1.1.0) (sym heap_is) (subst (λ (us : List Val). Goes z.0.3.1.0 (heap_word a ∷ []) us z.0.4.1.1.0) (sym are.1.0) (subst (Goes z.0.3.1.0 (heap_word a ∷ []) (ptr_val z.0.3.1.0 ∷ [])) (sym at_value.1)
    (by_pointer (λ s. Goes s (heap_word a ∷ []) (ptr_val s ∷ []) (u ∷ [])) z.0.3.1.0
    (λ b o. let s : Ptr = block_ptr b o in let Z = y s in
    qed 𝓛 ((‵ ftrue ⊛ ‵ (owns (heap.the_row ∷ RawPtr ∷ Made ∷ []) (a, (s, (x, tt))) Z.0.4)) ∷ ‵ (room_if RawPtr s) ∷ []) ∵
    split ! $ drop ! $ fsplit ! $ move ! (1 ∷ []) $ fsplit ! $ drop ! $ fsplit ! $ move ! (3 ∷ []) $ fsplit ! $ fpick ! (λ test. drop ! $ keep ! (0 ∷ 1 ∷ 3 ∷ []) $
    -- [the room; what was made; the allocator]
    enter ! 𝓣.C 𝓣.Λ code.function (heap_word a ∷ vptr b o ∷ u ∷ []) (W.post Z) $ alloc_all ! (λ l. pass_all ! refl (heap_good, ((tt, tt), (good, tt))) $ let E = env code.Mir.locals l in
    sets ! (bin ! (get ! refl) (lit ! tt) (tests_null s test)) refl (tt, tt) $
    first ! $ branches ! (get ! refl) (λ t. absurd t)
    (λ t. skips ! $ exec ! 𝓣.C 𝓣.Λ E code.Mir.t-3 (at_ret E (W.post Z)) $
    sets ! (of_opd ! (get ! refl)) refl good $
    let T = triple_of 𝓛 of.signature (of.spec 𝓛 𝓜.mem 𝓡.returns) in
    let zz : T.Ghost = ((tt, tt, tt, (a, (x, tt)), (heap_word a ∷ [], (u ∷ [], tt))), tt) in
    move ! (1 ∷ []) $ nothing ! $ move ! (1 ∷ 0 ∷ []) $ fjoin ! $ move ! (2 ∷ 0 ∷ []) $ fjoin ! $ nothing ! $ join ! $ nothing ! $ move ! (1 ∷ 0 ∷ []) $ join ! $ use1 𝓛 (raw (T.pre zz)) (id⊢ 𝓤 _) $
    calls_at ! fm T (of_thm.met 𝓤 𝓛 𝓜 𝓡 (code.calls-mls_c::pointer::loose_of 𝓡.env wired)) zz (and_then ! (get ! refl) (and_then ! (get ! refl) (no_more !))) (λ v.
    comes ! tt of.ended (of.clauses 𝓛 𝓜.mem 𝓡.returns) zz v (λ r ws. move ! (1 ∷ []) $ use1 𝓛 (raw (fact 𝓤 (r.value ≡ boxed x))) (id⊢ 𝓤 _) $ heard ! (r.value ≡ boxed x) (λ is.
    loose_out held.the_row heap.the_row heap_laws.the_row_laws ghosts ! r (v ∷ []) (λ h e fits. let p = r.at in
    let fine = ((rawptr_Lawful 𝓛).typed p (ptr_val p ∷ []) refl).0 in
    -- [what the pointer owns; the room]
    lands_as ! (ap only e) refl (loose_typed held.the_row heap.the_row heap_laws.the_row_laws ghosts p h fits) $
    sets ! (of_opd ! (get_in ! (fld ! refl (stop !)) (sub ! 0 refl (whole !)))) refl fine $
    sets ! (of_opd ! (get ! refl)) refl fine $
    assigns ! (of_opd ! (get ! refl)) (through ! refl (stop !)) (init ! 1 refl fine) $
    sets ! (of_opd ! (unit_lit !)) refl (tt, tt) $
    returns ! (look_at ! 0 refl) $ free_all ! refl $
    feq_i ! (List Val) (ptr_val p ∷ []) (ptr_val p ∷ []) refl $ move ! (2 ∷ 0 ∷ []) $ use2 𝓛 (‵ (lies_at RawPtr full_share s p)) (part_in 𝓛 RawPtr refl full_share p b o (ptr_val p)) $
    move ! (1 ∷ []) $ rewrite ! 0 (λ (made : Option Held). ‵ (loose_owns (ghosts.dealloc_token r.alloc) held.the_row p made)) is refl $ move ! (1 ∷ 0 ∷ []) $ fjoin ! $
    fpack ! (Ptr × Global) (λ k. fsep (lies_at RawPtr full_share s k.0) (loose_owns (ghosts.dealloc_token k.1) held.the_row k.0 (boxed x))) (p, r.alloc) $
    feq_i ! (List Val) (vunit ∷ []) (vunit ∷ []) refl $ nothing ! $ nothing ! $ fjoin ! $ nothing ! $ fjoin ! $ nothing ! $ fjoin ! $ nothing ! $ by ! (leaves 𝓛 f.ended stayed c Z vunit tt (tt, (tt, (rest (Made.exit yes) x, tt))) (tt, (tt, (tt, tt))))))))))))
    (let Z = y null_ptr in
    qed 𝓛 ((‵ ftrue ⊛ ‵ (owns (heap.the_row ∷ RawPtr ∷ Made ∷ []) (a, (null_ptr, (x, tt))) Z.0.4)) ∷ ‵ (room_if RawPtr null_ptr) ∷ []) ∵
    split ! $ drop ! $ fsplit ! $ drop ! $ fsplit ! $ drop ! $ fsplit ! $ keep ! (0 ∷ []) $
    -- [what was made]
    enter ! 𝓣.C 𝓣.Λ code.function (heap_word a ∷ vnull ∷ u ∷ []) (W.post Z) $ alloc_all ! (λ l. pass_all ! refl (heap_good, ((tt, record { fits = lit< tt }), (good, tt))) $
    sets ! (bin ! (get ! refl) (lit ! tt) (tests_null null_ptr (lit< tt))) refl (tt, tt) $
    first ! $ branches ! (get ! refl)
    (λ t. sets ! (of_opd ! (get ! refl)) refl good $
    let T = triple_of 𝓛 lets.signature (lets.spec 𝓛 𝓜.mem 𝓡.returns) in
    let zz : T.Ghost = ((tt, tt, tt, (x, tt), (u ∷ [], tt)), tt) in
    nothing ! $ move ! (1 ∷ 0 ∷ []) $ fjoin ! $ nothing ! $ join ! $ nothing ! $ move ! (1 ∷ 0 ∷ []) $ join ! $ use1 𝓛 (raw (T.pre zz)) (id⊢ 𝓤 _) $
    calls_at ! fm T (lets_thm.met 𝓤 𝓛 𝓜 𝓡 (code.calls-mls_c::pointer::let_made_go 𝓡.env wired)) zz (and_then ! (get ! refl) (no_more !)) (λ v.
    comes ! tt lets.ended (lets.clauses 𝓛 𝓜.mem 𝓡.returns) zz v (λ r ws. use1 𝓛 (‵ (unit.own_val r (v ∷ []))) (id⊢ 𝓤 _) $ feq_l ! (λ is_unit.
    lands_as ! (ap only is_unit) refl (tt, tt) $
    sets ! (of_opd ! (unit_lit !)) refl (tt, tt) $
    returns_within ! (W.post Z) refl (look_at ! 0 refl) $ free_all ! refl $ drop ! $
    nothing ! $ feq_i ! (List Val) (vunit ∷ []) (vunit ∷ []) refl $ nothing ! $ nothing ! $ fjoin ! $ nothing ! $ fjoin ! $ nothing ! $ fjoin ! $ nothing ! $ by ! (leaves 𝓛 f.ended stayed c Z vunit tt (tt, (tt, (rest (Made.exit yes) x, tt))) (tt, (tt, (tt, tt))))))))
    (λ t. absurd t)))))))
