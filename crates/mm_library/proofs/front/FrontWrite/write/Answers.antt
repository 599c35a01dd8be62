use Rattle.std.proofs.Common.{◌∙◌, ℕ, ap, drop, length, sym, take}
use Rattle.mm_library.proofs.FrontLaw.{front_grows, rest_stays}
use Rattle.mm_library.proofs.front.FrontWrite.write.Goals as goal

pub invariant_of-self-clause-is_at_front : goal.invariant_of-self-clause-is_at_front
invariant_of-self-clause-is_at_front c =
    let front = c.args.self.now in
    let out = c.copy_behind.new.out in
    ap (λ (n : ℕ). take n out) c.in-Some.ensures.1
    ∙ front_grows front.len front.out.now out c.args.bytes.now front.written.bytes
    c.copy_behind.ensures.length_stays front.is_at_front c.copy_behind.ensures.bytes_follow_front
    ∙ ap (take (length out)) (sym c.add.ensures)

pub invariant_of-self-clause-rest_stays : goal.invariant_of-self-clause-rest_stays
invariant_of-self-clause-rest_stays c =
    let front = c.args.self.now in
    ap (λ (n : ℕ). drop n c.copy_behind.new.out) c.in-Some.ensures.1
    ∙ c.copy_behind.ensures.rest_stays
    ∙ rest_stays front.len (length c.args.bytes.now) front.out.now front.before.bytes
    front.rest_stays
    ∙ sym (ap (λ (n : ℕ). drop n front.before.bytes) c.in-Some.ensures.1)
