-- The text of a generated model: a source, so many stages joined by fifos, and a drain.
use Rattle.std.specs.Prelude.{ℕ, ◌+◌, ◌-◌, List, ◌++◌, codes, decimal}
use Rattle.std.specs.List.{flat_map, range_with_len}
use Rattle.ooo_gen.specs.Numbers.{number_of, addend_of, gap_of}

-- ---- the greatest numbers of a model

abbrev pub most_stages : ℕ
most_stages = 200

abbrev pub most_items : ℕ
most_items = 10_000

-- ---- the modules

-- the lines of the module that puts so many items, one each nanosecond
abbrev pub source_lines : (items : ℕ) → List ℕ
source_lines items =
    codes "SC_MODULE(Source) { sc_fifo_out<int> out;\n"
    ++ codes "  void run() { for (int i = 0; i < " ++ decimal items
    ++ (codes "; i++) { out.write(i); wait(1, SC_NS); } }\n" ++ codes "  SC_CTOR(Source) { SC_THREAD(run); } };\n")

-- the lines of the module that adds to each item, in its own time
abbrev pub stage_lines : List ℕ
stage_lines =
    codes "SC_MODULE(Stage) { sc_fifo_in<int> in; sc_fifo_out<int> out; const int add; const int gap;\n"
    ++ codes "  SC_HAS_PROCESS(Stage);\n"
    ++ codes "  Stage(sc_module_name n, int a, int g) : sc_module(n), add(a), gap(g) { SC_THREAD(run); }\n"
    ++ codes "  void run() { while (true) { int v = in.read(); wait(gap, SC_NS); out.write(v + add); } } };\n"

-- the lines of the module that prints so many items and stops
abbrev pub drain_lines : (items : ℕ) → List ℕ
drain_lines items =
    codes "SC_MODULE(Drain) { sc_fifo_in<int> in;\n"
    ++ codes "  void run() { for (int i = 0; i < " ++ decimal items
    ++ (codes "; i++) { int v = in.read(); cout << v << endl; } sc_stop(); }\n" ++ codes "  SC_CTOR(Drain) { SC_THREAD(run); } };\n")

-- the lines before sc_main
unfoldable pub modules_text : (items : ℕ) → List ℕ
modules_text items = codes "#include <systemc.h>\n" ++ source_lines items ++ stage_lines ++ drain_lines items

-- ---- sc_main

-- the line of fifo k
abbrev pub fifo_line : (k : ℕ) → List ℕ
fifo_line k = codes "  sc_fifo<int> f" ++ decimal k ++ codes "(4);\n"

-- the line of stage k, whose number is x
abbrev pub stage_line : (k x : ℕ) → List ℕ
stage_line k x =
    codes "  Stage g" ++ decimal k ++ codes "(\"g" ++ decimal k ++ codes "\", " ++ decimal (addend_of x) ++ codes ", "
    ++ decimal (gap_of x) ++ codes ");\n"

-- the line of stage k, whose number is that of a seed
abbrev pub seeded_line : (seed k : ℕ) → List ℕ
seeded_line seed k = stage_line k (number_of seed k)

-- the line that binds stage k between the fifo before it and its own
abbrev pub binding_line : (k : ℕ) → List ℕ
binding_line k =
    codes "  g" ++ decimal k ++ codes ".in(f" ++ decimal (k - 1) ++ codes "); g" ++ decimal k ++ codes ".out(f" ++ decimal k
    ++ codes ");\n"

-- the last lines, with the binding of the drain to the fifo after so many stages
abbrev pub last_lines : (stages : ℕ) → List ℕ
last_lines stages = codes "  d.in(f" ++ decimal stages ++ codes ");\n  sc_start(1, SC_SEC);\n  return 0;\n}\n"

-- the lines of sc_main; `range_with_len a n` has the n numbers from a on, and each of them has its line
unfoldable pub main_text : (stages seed : ℕ) → List ℕ
main_text stages seed =
    codes "int sc_main(int argc, char* argv[]) {\n"
    ++ flat_map fifo_line (range_with_len 0 (stages + 1))
    ++ codes "  Source s(\"s\");\n"
    ++ flat_map (seeded_line seed) (range_with_len 1 stages)
    ++ codes "  Drain d(\"d\");\n  s.out(f0);\n"
    ++ flat_map binding_line (range_with_len 1 stages)
    ++ last_lines stages

-- ---- the whole

-- the text of so many stages and items, with the numbers of a seed
abbrev pub text_of : (stages items seed : ℕ) → List ℕ
text_of stages items seed = modules_text items ++ main_text stages seed
