use Rattle.std.proofs.Common.{◌≡◌, ◌<◌, ◌++◌, ◌∷◌, [], List, length, take, get_or, arith, ap, sym, ◌∙◌}
use Rattle.std.proofs.lemmas.List.{take_all, take_more}
use Rattle.std.proofs.lemmas.Option.{get_or_from_slice_get}
use Rattle.ooo_value.specs.declared.values.Value.{Value}
use Rattle.ooo_channels.specs.Cycles.{channel_in, readable}
use Rattle.ooo_board.proofs.seeing.values_of.Goals as goal

pub loop-n-init : goal.loop-n-init
loop-n-init c = record { values = λ ops bank there. c.in_ok-values.ensures.items; room = omega (arith, c.in_ok-values.ensures.len, c.in_ok-values.ensures.capacity) }

pub push_reserved-requires : goal.push_reserved-requires
push_reserved-requires c = omega (arith, c.loop-n.invariant.room, c.loop-n-test.true)

pub loop-n-preserved : goal.loop-n-preserved
loop-n-preserved c = record {
  values = λ ops bank there.
      let count = c.available-count.ensures ops bank there in
      let all = readable (channel_in c.args.at ops c.args.c) in
      let n = c.loop-n.n in
      let v : Value = c.value.result in
      let lt : n < length all = omega (arith, count, c.loop-n-test.true) in
      let got : get_or all n v ≡ v = get_or_from_slice_get all n v v (c.value.ensures.readable ops c.args.at bank there lt) in
      c.push_reserved.ensures.items ∙ ap (λ (xs : List Value). xs ++ v ∷ []) (c.loop-n.invariant.values ops bank there)
      ∙ ap (λ (x : Value). take n all ++ x ∷ []) (sym got) ∙ sym (take_more all n v lt);
  room = omega (arith, c.loop-n.invariant.room, c.loop-n-test.true, c.push_reserved.ensures.len, c.push_reserved.ensures.capacity);
}

pub returns : goal.returns
returns c ops bank there =
    let count = c.available-count.ensures ops bank there in
    let all = readable (channel_in c.args.at ops c.args.c) in
    c.from_vec.ensures ∙ c.loop-n.invariant.values ops bank there ∙ take_all c.loop-n.n all (omega (arith, count, c.loop-n-test.false))
