-- What `mm_rules` and `mm_machine` cite of frames and of lists: the index of a variable's `$f`
-- (`FirstFloatLaw.antt`), the numbers of a frame (`FrameLaw.antt`), the order of a disjoint pair
-- (`DisjointLaw.antt`), and a stretch of a list that grows (`SliceLaw.antt`).
pub mod DisjointLaw
pub mod FirstFloatLaw
pub mod FrameLaw
pub mod SliceLaw
