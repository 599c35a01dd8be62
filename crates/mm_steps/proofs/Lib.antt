-- `flags_with_marked_step` (`StoredStepsLaw.antt`) shows that marking a step changes no other step,
-- and only that step's mark.
pub mod StoredStepsLaw
