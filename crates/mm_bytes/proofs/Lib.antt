-- A mask computed by lanes is compared with its predicate for each of the 256 byte values:
-- `mask_of_lanes` (`MaskLaw.antt`), where `lanes_or` and `lanes_xor` combine lane tests. This
-- proves `white_mask` and `bad_mask`; the other two are `bitmask_splat` of the standard library. A
-- tail is made a block by `padded`; `mask_padded` shows that the bytes after it are in no mask. The
-- loop of `first_bad` keeps that no byte before `at` is bad: `none_block` skips 64 bytes, and
-- `position_block`, `position_some` and `position_none` give the answer (`CountLaw.antt`). The loop
-- of `count_lf` keeps the count before `at`, by `count_by_chunk`.
pub mod MaskLaw
pub mod CountLaw
