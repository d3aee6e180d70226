-- Laws: the common front of two ways leads to the lowest node over the ends of both.
use Rattle.std.specs.Prelude.{◌≡◌, ◌++◌}
use Rattle.mls_treemath.specs.Paths.{Path}

-- a way is another with some steps more, so that its end lies under the end of the other or is that end
pub record Under (front way : Path) : Type 0 where
  pub more : Path
  pub whole : way ≡ front ++ more
