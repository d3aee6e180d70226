-- What a call left is taken apart. Assumes `Logic`.
use Rattle.std.proofs.Common.{◌≡◌, List, [], ◌∷◌, ◌++◌, refl, ◌∙◌}
use seplogic.Ra.Ura.{Ura}
use mir.Val.{Val, vint, vstruct, of_list}
use base.Logic.{id⊢}
use types.Logic.{Logic}
use types.Kit.{Item, Goal, Seq, ‵, ◌$◌, move, drop, use1, fsplit, fpick, feq_l}
use denote.Builtin.{u32, u64}
use denote.Laws.{Is, shows}
use denote.Param.{layout}
use denote.RawPtr.{Ptr, block_ptr, null_ptr}
use denote.Steps.{peeks}
use Rattle.std.proofs.cell.Inside.{Good}
use Rattle.std.proofs.Common.{w32, w64, ◌<◌, ◌^◌}
use Rattle.mls_c.specs.Memory.{IfNull}
use Rattle.mls_calls.specs.declared.done.Done.{Done}
use Rattle.mls_calls.specs.declared.done.Parts.{Parts}
use Rattle.mls_calls.specs.declared.copying.CopyOutcome.{CopyOutcome as CopyValue}
use Rattle.mls_calls.specs.contracts.copying.CopyOutcome as copy_outcome
use Rattle.mls_calls.specs.contracts.held.Held as held
use Rattle.mls_calls.proofs.held.Held.TheLaws as held_laws
use Rattle.mls_calls.specs.contracts.done.Done as done
use Rattle.mls_calls.specs.contracts.done.Parts as parts
use Rattle.mls_c.proofs.CallRows.{Made, made_row_laws, Outcome, outcome_row_laws}
use Rattle.mls_c.proofs.Rows.{apart}

pub if_null : {P : Type 0} (p : Ptr) → P → IfNull p P
if_null (block_ptr b o) x = tt
if_null null_ptr x = x

pub stays_null : {P Q : Type 0} (p : Ptr) → IfNull p P → (P → Q) → IfNull p Q
stays_null (block_ptr b o) x f = tt
stays_null null_ptr x f = f x

module _ {M : Type 1} {𝓤 : Ura M} {𝓛 : Logic 𝓤} {K : Type 0} {Γ : List (Item 𝓤)} {G : Goal 𝓤 𝓛.H} where
  -- into what is held and the outcome
  pub done_apart : K → (d : Done) (vs : List Val)
      → ((u v : Val) → vs ≡ vstruct (of_list (u ∷ v ∷ [])) ∷ [] → Good (layout held.the_row) u → Good (layout Outcome) v
      → Seq K 𝓛 (‵ (held.the_row.own_val d.held (u ∷ [])) ∷ ‵ (Outcome.own_val d.outcome (v ∷ [])) ∷ Γ) G) → Seq K 𝓛 (‵ (done.the_row.own_val d vs) ∷ Γ) G
  done_apart t d vs k = fpick t (λ vss. fsplit t $ feq_l t (λ e. fsplit t $
      use1 𝓛 (‵ (held.the_row.own_val d.held vss.0)) (id⊢ 𝓤 _) $ apart held.the_row (held_laws.the_row_laws.lawful 𝓛) t refl d.held vss.0 (λ u eu gu. move t (1 ∷ []) $ fsplit t $
      use1 𝓛 (‵ (Outcome.own_val d.outcome vss.1.0)) (id⊢ 𝓤 _) $ apart Outcome (outcome_row_laws.lawful 𝓛) t refl d.outcome vss.1.0 (λ v ev gv. move t (1 ∷ []) $ drop t $ move t (1 ∷ []) $
      k u v (e ∙ (λ i. vstruct (of_list (eu i ++ (ev i ++ []))) ∷ [])) gu gv))))

  -- into the handles, the number and the answer
  pub parts_apart : K → (p : Parts) (vs : List Val)
      → ((u v : Val) → vs ≡ vstruct (of_list (u ∷ v ∷ vint w64 p.value ∷ vint w32 p.answer ∷ [])) ∷ [] → Good (layout Made) u → Good (layout Made) v → p.value < 2 ^ 64 → p.answer < 2 ^ 32
      → Seq K 𝓛 (‵ (Made.own_val p.made (u ∷ [])) ∷ ‵ (Made.own_val p.other (v ∷ [])) ∷ Γ) G) → Seq K 𝓛 (‵ (parts.the_row.own_val p vs) ∷ Γ) G
  parts_apart t p vs k = fpick t (λ vss. fsplit t $ feq_l t (λ e. fsplit t $
      use1 𝓛 (‵ (Made.own_val p.made vss.0)) (id⊢ 𝓤 _) $ apart Made (made_row_laws.lawful 𝓛) t refl p.made vss.0 (λ u eu gu. move t (1 ∷ []) $ fsplit t $
      use1 𝓛 (‵ (Made.own_val p.other vss.1.0)) (id⊢ 𝓤 _) $ apart Made (made_row_laws.lawful 𝓛) t refl p.other vss.1.0 (λ v ev gv. move t (1 ∷ []) $ fsplit t $
      peeks t u64 (Is u64) (shows 𝓛 u64) p.value vss.1.1.0 (λ iv. drop t $ fsplit t $ peeks t u32 (Is u32) (shows 𝓛 u32) p.answer vss.1.1.1.0 (λ ia. drop t $ drop t $ move t (1 ∷ []) $
      k u v (e ∙ (λ i. vstruct (of_list (eu i ++ (ev i ++ (iv.0 i ++ (ia.0 i ++ []))))) ∷ [])) gu gv iv.1 ia.1))))))

  -- into what is held and the answer
  pub copy_apart : K → (d : CopyValue) (vs : List Val)
      → ((u : Val) → vs ≡ vstruct (of_list (u ∷ vint w32 d.answer ∷ [])) ∷ [] → Good (layout held.the_row) u → d.answer < 2 ^ 32
      → Seq K 𝓛 (‵ (held.the_row.own_val d.held (u ∷ [])) ∷ Γ) G) → Seq K 𝓛 (‵ (copy_outcome.the_row.own_val d vs) ∷ Γ) G
  copy_apart t d vs k = fpick t (λ vss. fsplit t $ feq_l t (λ e. fsplit t $
      use1 𝓛 (‵ (held.the_row.own_val d.held vss.0)) (id⊢ 𝓤 _) $ apart held.the_row (held_laws.the_row_laws.lawful 𝓛) t refl d.held vss.0 (λ u eu gu. move t (1 ∷ []) $ fsplit t $
      peeks t u32 (Is u32) (shows 𝓛 u32) d.answer vss.1.0 (λ ia. drop t $ drop t $
      k u (e ∙ (λ i. vstruct (of_list (eu i ++ (ia.0 i ++ []))) ∷ [])) gu ia.1))))
