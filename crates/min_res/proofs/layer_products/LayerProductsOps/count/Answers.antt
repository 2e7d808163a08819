use Rattle.min_res.proofs.layer_products.LayerProductsOps.count.Goals as goal

pub returns : goal.returns
returns c = c.args.self.now.members_are.count_is
