-- The model of `Lists` is `cut bounds items`: the one list, cut at the bounds. Its invariant is
-- `AreBounds`: a 0, and ends that ascend to the length. `push` has both by
-- `joined_with_one_more`; so has a caller that concatenates its lists itself, with `none_joined`
-- and `taken_joined_are_all_joined`, and then calls `from_ends`. `get` and `between` are
-- `list_is_part` and `joined_lists_are_part`. All are in `ListsLaw.antt`.
pub mod ListsLaw
