-- What a box owns as its pointer, which is null for none.
use base.Fml.{Fml, ftrue, ffalse}
use mir.Syntax.{Ty}
use denote.RattleType.{RattleType}
use denote.RawPtr.{Ptr, block_ptr, null_ptr}
use Rattle.std.specs.declared.option.Option.{Option}
use Rattle.std.specs.declared.option.Option.TheVariants.{None, Some}
use Rattle.std_alloc.specs.Box.Ownership.{box_owns}

-- the box of x at the pointer, or nothing at null
abbrev pub loose_owns : (Ty → Ptr → Fml) → (R : RattleType) → Ptr → Option R.Denot → Fml
loose_owns holds R null_ptr None = ftrue
loose_owns holds R null_ptr (Some x) = ffalse
loose_owns holds R (block_ptr b o) None = ffalse
loose_owns holds R (block_ptr b o) (Some x) = box_owns holds R (block_ptr b o) x
