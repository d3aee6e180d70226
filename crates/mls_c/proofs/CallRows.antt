-- The types of a call's parts as rows, with how each is stored. Assumes nothing.
use mathlib.Core.Path.{refl}
use denote.RattleType.{RattleType}
use denote.Builtin.{u32}
use denote.Param.Shared.{copy_shared}
use denote.Struct.Field.{u32-field}
use denote.Struct.Laws.{u32-laws, u32-copy}
use denote.Param.Laws.{Laws, of_field}
use Rattle.std.specs.contracts.alloc.Global as heap
use Rattle.std.proofs.alloc.Global.TheLaws as heap_laws
use Rattle.std.specs.contracts.impls.GlobalAllocator.TheImpl.{ghosts}
use Rattle.std.specs.contracts.boxed.Box as boxed
use Rattle.std.proofs.boxed.Box.TheLaws as boxed_laws
use Rattle.std.specs.contracts.option.Option as option
use Rattle.std.proofs.option.Option.TheLaws as option_laws
use Rattle.std.specs.contracts.result.Result as result
use Rattle.std.proofs.result.Result.TheLaws as result_laws
use Rattle.mls_calls.specs.contracts.done.Fruit as fruit
use Rattle.mls_calls.proofs.done.Fruit.TheLaws as fruit_laws
use Rattle.mls_calls.specs.contracts.held.Held as held
use Rattle.mls_calls.proofs.held.Held.TheLaws as held_laws

abbrev pub Boxed : RattleType
Boxed = boxed.the_row held.the_row heap.the_row ghosts

abbrev pub boxed_row_laws : Laws Boxed
boxed_row_laws = boxed_laws.the_row_laws held.the_row heap.the_row ghosts held_laws.the_row_laws heap_laws.the_row_laws

abbrev pub Made : RattleType
Made = option.the_row Boxed

abbrev pub made_row_laws : Laws Made
made_row_laws = option_laws.the_row_laws Boxed boxed_row_laws

abbrev pub Outcome : RattleType
Outcome = result.the_row fruit.the_row u32

abbrev pub outcome_row_laws : Laws Outcome
outcome_row_laws = result_laws.the_row_laws fruit.the_row u32 fruit_laws.the_row_laws (of_field u32-field u32-laws refl (copy_shared u32-field u32-copy))
