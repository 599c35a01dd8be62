-- `label_count` finds the labels of a proof (`BracketLaw.antt`). Each label stands for at most one
-- dummy variable, since labels are unique: `named_alone` and `named_by_labels` (`NamedLaw.antt`).
-- Sorted lists are those of the definitions because they rise and have the same members, and the
-- pairs of two such lists are those of the definitions by `pairs_of_filtered` (`PairsLaw.antt`).
pub mod BracketLaw
pub mod SearchLaw
pub mod ListsLaw
pub mod NamedLaw
pub mod PairsLaw
