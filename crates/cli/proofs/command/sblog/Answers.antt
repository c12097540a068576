use Rattle.cli.proofs.command.sblog.Goals as goal

pub returns : goal.returns
returns c = c.joined.ensures _ _ c.migrate.ensures.local c.migrate.ensures.shape (c.joined-with_native.ensures _ _ c.native.ensures.local c.native.ensures.shape (c.joined-with_dis.ensures _ _ c.dis.ensures.local c.dis.ensures.shape (c.joined-with_pack.ensures _ _ c.pack.ensures.local c.pack.ensures.shape (c.joined-with_asm.ensures _ _ c.asm.ensures.local c.asm.ensures.shape (c.joined-with_explain.ensures _ _ c.explain.ensures.local c.explain.ensures.shape (c.joined-with_check.ensures _ _ c.check.ensures.local c.check.ensures.shape (c.joined-with_draw.ensures _ _ c.draw.ensures.local c.draw.ensures.shape (c.joined-with_live.ensures _ _ c.live.ensures.local c.live.ensures.shape (c.joined-with_run.ensures _ _ c.run.ensures.local c.run.ensures.shape c.program.ensures)))))))))
