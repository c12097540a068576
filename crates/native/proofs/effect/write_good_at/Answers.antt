use Rattle.std.proofs.Common.{◌≡◌, ◌++◌, Some, sym, subst}
use Rattle.std.specs.Prelude.{OnOk}
use Rattle.native.specs.Code.{codes}
use Rattle.native.specs.Emission.{good_of}
use Rattle.native.proofs.effect.write_good_at.Goals as goal

pub returns-in-Send : goal.returns-in-Send
returns-in-Send c = subst (λ h. OnOk c.write_send.result (c.write_send.new.code.items ≡ c.args.code.now.items ++ codes (good_of h (Some c.args.at)))) (sym c.in-Send.is) c.write_send.ensures

pub returns-in-Output : goal.returns-in-Output
returns-in-Output c = subst (λ h. OnOk c.write_output.result (c.write_output.new.code.items ≡ c.args.code.now.items ++ codes (good_of h (Some c.args.at)))) (sym c.in-Output.is) c.write_output.ensures

pub returns-in-SendSized : goal.returns-in-SendSized
returns-in-SendSized c = subst (λ h. OnOk c.write_send_sized.result (c.write_send_sized.new.code.items ≡ c.args.code.now.items ++ codes (good_of h (Some c.args.at)))) (sym c.in-SendSized.is) c.write_send_sized.ensures

pub returns-in-OutputSized : goal.returns-in-OutputSized
returns-in-OutputSized c = subst (λ h. OnOk c.write_output_sized.result (c.write_output_sized.new.code.items ≡ c.args.code.now.items ++ codes (good_of h (Some c.args.at)))) (sym c.in-OutputSized.is) c.write_output_sized.ensures
