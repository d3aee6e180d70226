-- `swap_held` reads the old value and writes the new one, unless the pointer is null.
use Rattle.std.proofs.Common.{◌≡◌, List, [], ◌∷◌, ◌++◌, refl, sym, subst, lit<, ◌∙◌}
use base.Logic.{guard_i}
use contract.Monad.{fact_use}
use base.Fraction.{full_share}
use base.Logic.{ent}
use base.Fml.{ftrue, fat}
use mir.Raw.{raw as bare}
use mir.Val.{Val, vptr, vnull}
use prog.Wp.{WpFn}
use contract.Monad.{fact}
use contract.Running.{tables}
use types.Kit.{‵, raw, given, some, ◌⊛◌, at_ret, ◌$◌, ◌∵◌, !, qed, by, move, keep, drop, learn, pick, use1, use2, split, fsplit, fjoin, fpick, fpack}
use types.Run.{enter, of_opd, lit, bin, load, look, store, stop, assigns, first, branches, skips, exec, returns, returns_within}
use types.ByLocal.{alloc_all, pass_all, free_all, look_at, get, through, sets, env}
use borrow.Table.OneValue.{part_out, part_in}
use denote.Exit.{yes, rest}
use denote.Memory.{part_at, lone}
use denote.RattleType.{RattleType, owns}
use denote.RawPtr.{Ptr, RawPtr, block_ptr, null_ptr, ptr_val, Testable, tests_null}
use denote.Signature.{plain}
use denote.Steps.{nothing, heard}
use denote.Triple.Walked.{Stays, walk_of, stay_dropped, Goes-dropped}
use Rattle.std.proofs.alloc.Calls.{Goes-blank}
use Rattle.std.proofs.cell.Inside.{one}
use denote.Param.{layout}
use Rattle.std.proofs.raw_atomic.Walks.{proved_at, leaves}
use Rattle.std.specs.declared.alloc.Global.{Global}
use Rattle.std.specs.contracts.impls.GlobalAllocator.TheImpl.{ghosts}
use Rattle.std_alloc.specs.Box.Ownership.{box_owns}
use Rattle.std_heap.proofs.GlobalToken.{dealloc_token-Testable}
use Rattle.mls_c.specs.Memory.{IfNull, held_at}
use Rattle.mls_calls.specs.declared.held.Held.{Held}
use Rattle.mls_calls.specs.declared.held.Held.TheVariants.{Nothing}
use Rattle.mls_calls.specs.contracts.held.Held as held
use Rattle.mls_calls.proofs.held.Held.TheLaws as held_laws
use Rattle.mls_c.proofs.Rows.{by_pointer, typed, holds}
use Rattle.mls_c.proofs.Exits.{held_blank}
use Rattle.mls_c.specs.contracts.pointer.swap_held as f
use Rattle.mls_c.proofs.pointer.swap_held.Statement.{statement}
use Rattle.mls_c.proofs.pointer.swap_held.Code as code

abbrev stayed : Stays f.ended.signature.params f.ended.kept
stayed = (stay_dropped _ yes, (stay_dropped _ yes, tt))

abbrev R : RattleType
R = held.the_row

pub swap_held_spec : {M : Type 1} → statement M
swap_held_spec 𝓤 𝓛 𝓜 𝓡 wired =
    let H = 𝓛.H in let c = f.clauses 𝓛 𝓜.mem 𝓡.returns in let W = walk_of 𝓛 f.ended stayed c in let 𝓣 = tables 𝓤 H 𝓜 𝓡 𝓡.env in
    proved_at 𝓛 f.ended stayed c 𝓜 𝓡 (Goes-dropped 𝓛 0 (plain (λ _. RawPtr)) yes (λ κs x w. refl), (Goes-blank 𝓛 0 (plain (λ _. R)) yes (λ κs x w. held_blank x w), tt))
    f.Key.name code.function (code.unfolded 𝓤 H 𝓜 𝓡 wired) (λ z are.
    let x : Held = z.0.3.1.0 in let old : Held = z.1 in
    let Y : Ptr → List Val → List Val → W.Ghost = λ s us vs. ((z.0.0, z.0.1, z.0.2, (s, (x, tt)), (us, (vs, tt))), old) in
    let Goes : Ptr → List Val → List Val → Type 1 = λ s us vs. ent 𝓤 (W.pre (Y s us vs)) (WpFn 𝓤 H 𝓣.C 𝓣.Λ code.function (us ++ (vs ++ [])) (W.post (Y s us vs))) in
    let at_value = one (layout R) z.0.4.1.0 ((held_laws.the_row_laws.lawful 𝓛).typed x z.0.4.1.0 are.1.0) in let u = at_value.0 in let good = at_value.2 in
    subst (λ (us : List Val). Goes z.0.3.0 us z.0.4.1.0) (sym are.0) (subst (Goes z.0.3.0 (ptr_val z.0.3.0 ∷ [])) (sym at_value.1)
    (by_pointer (λ s. Goes s (ptr_val s ∷ []) (u ∷ [])) z.0.3.0
    (λ b o. let s : Ptr = block_ptr b o in let Z = Y s (vptr b o ∷ []) (u ∷ []) in
    qed 𝓛 ((‵ ftrue ⊛ ‵ (owns (RawPtr ∷ R ∷ []) (s, (x, tt)) (vptr b o ∷ [], (u ∷ [], tt)))) ∷ (raw (fact 𝓤 (IfNull s (x ≡ Nothing))) ⊛ ‵ (held_at s old)) ∷ []) ∵
    split ! $ drop ! $ fsplit ! $ drop ! $ fsplit ! $ move ! (2 ∷ []) $ split ! $ drop ! $ fpick ! (λ heap. fsplit ! $ move ! (1 ∷ []) $
    -- [the token; the value in memory; the new value; true]
    use1 𝓛 (given (Testable s) (‵ (ghosts.dealloc_token heap (bare (lone R.mir)) s))) (fact_use 𝓤 (Testable s) (dealloc_token-Testable 𝓛 heap (bare (lone R.mir)) s) (guard_i 𝓤 (Testable s) _)) $ learn ! (λ test. move ! (1 ∷ []) $
    use1 𝓛 (some (λ (v : Val). ‵ (fat full_share (lone R.mir) b o v) ⊛ ‵ (R.own_val old (v ∷ [])))) (part_out 𝓛 R refl full_share old b o) $ pick ! (λ v. split ! $ move ! (1 ∷ []) $
    typed R (held_laws.the_row_laws.lawful 𝓛) ! old v (λ ok. move ! (1 ∷ []) $
    -- [the cell; the old value; the token; the new value; true]
    enter ! 𝓣.C 𝓣.Λ code.function (vptr b o ∷ u ∷ []) (W.post Z) $ alloc_all ! (λ l. pass_all ! refl ((tt, tt), (good, tt)) $
    sets ! (bin ! (get ! refl) (lit ! tt) (tests_null s test)) refl (tt, tt) $
    first ! $ branches ! (get ! refl) (λ t. absurd t)
    (λ t. skips ! $ exec ! 𝓣.C 𝓣.Λ (env code.Mir.locals l) code.Mir.t-3 (at_ret (env code.Mir.locals l) (W.post Z)) $
    sets ! (of_opd ! (get ! refl)) refl (tt, tt) $
    sets ! (of_opd ! (load ! (through ! refl (stop !)) (look ! 0 refl))) refl ok.0 $
    sets ! (of_opd ! (get ! refl)) refl good $
    assigns ! (of_opd ! (get ! refl)) (through ! refl (stop !)) (store ! 0 refl good) $
    sets ! (of_opd ! (get ! refl)) refl ok.0 $
    returns ! (look_at ! 0 refl) $ free_all ! refl $
    move ! (0 ∷ 3 ∷ []) $ use2 𝓛 (‵ (part_at R full_share x b o)) (part_in 𝓛 R refl full_share x b o u) $
    move ! (0 ∷ 2 ∷ []) $ fjoin ! $ fpack ! Global (λ k. box_owns (ghosts.dealloc_token k) R s x) heap $
    -- [what lies there; the old value; true]
    holds ! (IfNull s (old ≡ Nothing)) tt $ holds ! (old ≡ old) refl $
    nothing ! $ nothing ! $ fjoin ! $ nothing ! $ fjoin ! $ nothing ! $ keep ! (0 ∷ 1 ∷ 5 ∷ 2 ∷ 3 ∷ 4 ∷ []) $
    by ! (leaves 𝓛 f.ended stayed c Z v old (tt, (rest (R.exit yes) x, tt)) (tt, (tt, tt))))))))))
    (let Z = Y null_ptr (vnull ∷ []) (u ∷ []) in
    qed 𝓛 ((‵ ftrue ⊛ ‵ (owns (RawPtr ∷ R ∷ []) (null_ptr, (x, tt)) (vnull ∷ [], (u ∷ [], tt)))) ∷ (raw (fact 𝓤 (x ≡ Nothing)) ⊛ ‵ (held_at null_ptr old)) ∷ []) ∵
    split ! $ drop ! $ fsplit ! $ drop ! $ fsplit ! $ move ! (2 ∷ []) $ split ! $ heard ! (x ≡ Nothing) (λ none. fpick ! (λ was. drop ! $
    -- [the new value; true]
    enter ! 𝓣.C 𝓣.Λ code.function (vnull ∷ u ∷ []) (W.post Z) $ alloc_all ! (λ l. pass_all ! refl ((tt, record { fits = lit< tt }), (good, tt)) $
    sets ! (bin ! (get ! refl) (lit ! tt) (tests_null null_ptr (lit< tt))) refl (tt, tt) $
    first ! $ branches ! (get ! refl)
    (λ t. sets ! (of_opd ! (get ! refl)) refl good $
    returns_within ! (W.post Z) refl (look_at ! 0 refl) $ free_all ! refl $
    nothing ! $ fpack ! (x ≡ Nothing) (λ _. ftrue) none $
    holds ! (old ≡ Nothing) was $ holds ! (x ≡ old) (none ∙ sym was) $
    nothing ! $ nothing ! $ fjoin ! $ nothing ! $ fjoin ! $ nothing ! $ keep ! (0 ∷ 1 ∷ 5 ∷ 2 ∷ 3 ∷ 4 ∷ []) $
    by ! (leaves 𝓛 f.ended stayed c Z u x (tt, (rest (R.exit yes) x, tt)) (tt, (tt, tt))))
    (λ t. absurd t))))))))
