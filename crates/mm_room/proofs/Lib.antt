-- What is proved by hand in separation logic, in files `Proof.antt`: `Memory::none` makes no
-- memory, `allocate` turns the units of a room into the block that is asked for, and `deallocate`
-- turns that block back into them.
pub mod MemoryLaw
pub mod DroppedLaw
pub mod RoomLaw
pub mod BlockLaw
pub mod ReuseLaw
