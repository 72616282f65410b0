-- What a host holds owns.
use Rattle.std.specs.Prelude.{Option, Some, None}
use base.Fml.{Fml, feq}
use denote.RattleType.{RattleType}
use denote.RawPtr.{Ptr, null_ptr}
use Rattle.std.specs.Box.Ownership.{box_owns}
use mir.Syntax.{Ty}
use Rattle.std.specs.contracts.alloc.Global as heap
use Rattle.std_heap.specs.contracts.GlobalAllocator.TheImpl.{ghosts}

-- some handle to the heap, which says nothing
abbrev pub some_heap : heap.the_row.Denot
some_heap = record { memory = record { seal = tt } }

-- the right to free a block of the heap
abbrev pub chunk : Ty → Ptr → Fml
chunk t p = ghosts.dealloc_token some_heap t p

-- a value of this type on the heap, with the right to free it; or null, and nothing
abbrev pub held : (R : RattleType) → Ptr → Option R.Denot → Fml
held R p None = feq Ptr p null_ptr
held R p (Some x) = box_owns chunk R p x
